use Rattle.std.proofs.Common.{◌≡◌, subst, sym, ◌∙◌, arith, take_all}
use Rattle.wb_word.specs.Table.{IsTable}
use Rattle.wb_term.proofs.graph.data_words.Goals as goal

pub returns : goal.returns
returns c =
    let table = c.loop-at.invariant.table (omega arith) in
    let whole : c.loop-at.words.items ≡ c.args.rom.now =
    c.loop-at.invariant.so_far ∙ take_all c.loop-at.at c.args.rom.now (omega (arith, table.len)) in
    record { words = whole; table = subst (IsTable 1024 16) (sym whole) table }
