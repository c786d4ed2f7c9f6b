use Rattle.std.proofs.Common.{◌≡◌, ℕ, ◌*◌, ◌<◌, slice_index}
use Rattle.wb_word.specs.Table.{IsTable}
use Rattle.wb_rom.specs.ImageBytes.{triple_at}
use Rattle.wb_rom.proofs.read.read_program.Given as goal

abbrev pub invariant-loop-k : goal.invariant-loop-k
invariant-loop-k l = IsTable 2048 24 l.prog × ((j : ℕ) → j < l.k → slice_index l.prog j ≡ triple_at l.bytes (3 * j))
