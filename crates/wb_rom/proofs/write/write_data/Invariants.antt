use Rattle.std.proofs.Common.{◌≡◌, ℕ, ◌+◌, ◌*◌, ◌<◌, length, slice_index}
use Rattle.wb_rom.specs.ImageBytes.{AreBytes, pair_at}
use Rattle.wb_rom.proofs.write.write_data.Given as goal

abbrev pub invariant-loop-k : goal.invariant-loop-k
invariant-loop-k l =
    (length l.bytes ≡ 8192)
    × AreBytes (6144 + 2 * l.k) l.bytes
    × ((j : ℕ) → j < 6144 → slice_index l.bytes j ≡ slice_index l.initial.bytes j)
    × ((j : ℕ) → j < l.k → slice_index l.drom j ≡ pair_at l.bytes (6144 + 2 * j))
