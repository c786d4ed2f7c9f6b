-- An insertion changes what is found under its key, and nothing else.
use Rattle.std.proofs.Common.{arith}
use Rattle.std.proofs.lemmas.Map.Text.{text_keys}
use Rattle.wb_base.proofs.mem_shelf.MemShelf.add.Goals as goal

pub returns-clause-ok : goal.returns-clause-ok
returns-clause-ok c = record {
  added = grind (arith, text_keys);
  others = λ n ne. grind (arith, text_keys);
}
