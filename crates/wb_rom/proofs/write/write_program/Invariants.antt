use Rattle.std.proofs.Common.{◌≡◌, ℕ, ◌*◌, ◌<◌, length, slice_index}
use Rattle.wb_rom.specs.ImageBytes.{AreBytes, triple_at}
use Rattle.wb_rom.proofs.write.write_program.Given as goal

abbrev pub invariant-loop-k : goal.invariant-loop-k
invariant-loop-k l =
    (length l.bytes ≡ 8192)
    × AreBytes (3 * l.k) l.bytes
    × ((j : ℕ) → j < l.k → slice_index l.prog j ≡ triple_at l.bytes (3 * j))
