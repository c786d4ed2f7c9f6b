use Rattle.std.proofs.Common.{ℤ, ◌∷◌, [], ◌++◌, ap, ◌∙◌}
use Rattle.std.proofs.lemmas.Int.{to_z-of_z}
use Rattle.std.specs.Int.{w64}
use Rattle.std.specs.Str.{bytes_eq}
use Rattle.indexmap.specs.IndexMap.{insert_entry}
use Rattle.wb_asm.specs.Value.{number_named}
use Rattle.wb_asm.proofs.Named.{seen, seen_added}
use Rattle.wb_asm.proofs.names.Names.define.Goals as goal

pub returns : goal.returns
returns c =
    ap seen c.in_ok-insert.ensures.entries
    ∙ ap (λ (number : ℤ). seen (insert_entry (λ a b. bytes_eq a.now b.now) c.self.inside.numbers.entries c.args.name number))
    (to_z-of_z w64 c.args.number c.ranges.number)
    ∙ seen_added c.self.inside.numbers c.args.name c.args.number
    (ap (λ names. number_named names c.args.name.now) c.self.view_is ∙ c.requires)
    ∙ ap (λ names. names ++ (c.args.name.now, c.args.number) ∷ []) c.self.view_is
