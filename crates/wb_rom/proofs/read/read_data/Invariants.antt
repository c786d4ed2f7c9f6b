use Rattle.std.proofs.Common.{◌≡◌, ℕ, ◌+◌, ◌*◌, ◌<◌, slice_index}
use Rattle.wb_word.specs.Table.{IsTable}
use Rattle.wb_rom.specs.ImageBytes.{pair_at}
use Rattle.wb_rom.proofs.read.read_data.Given as goal

abbrev pub invariant-loop-k : goal.invariant-loop-k
invariant-loop-k l = IsTable 1024 16 l.drom × ((j : ℕ) → j < l.k → slice_index l.drom j ≡ pair_at l.bytes (6144 + 2 * j))
