use Rattle.std.proofs.Common.{sym, ap, ◌∙◌}
use Rattle.wb_asm.specs.Value.{number_named}
use Rattle.wb_asm.proofs.Named.{lookup_seen}
use Rattle.wb_asm.proofs.names.Names.number.Goals as goal

pub returns : goal.returns
returns c =
    c.copied.ensures ∙ c.get.ensures.value ∙ sym (lookup_seen c.args.name.now c.self.inside.numbers.entries)
    ∙ ap (λ names. number_named names c.args.name.now) c.self.view_is
