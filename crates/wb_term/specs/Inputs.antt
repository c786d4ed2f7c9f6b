-- What the values of a graph depend on.
use Rattle.std.specs.Prelude.{◌≡◌, ℕ, ◌<◌, List, length, slice_index}

-- the 16 bytes that the host may write, and the 256 words of the RAM's start
pub record Assignment : Type 0 where
  pub bytes : List ℕ
  pub cells : List ℕ

-- the counts and the ranges of the inputs
pub record IsAssignment (inputs : Assignment) : Type 0 where
  pub bytes_len : length inputs.bytes ≡ 16
  pub cells_len : length inputs.cells ≡ 256
  pub bytes : (place : ℕ) → slice_index inputs.bytes place < 256
  pub cells : (place : ℕ) → slice_index inputs.cells place < 65536
