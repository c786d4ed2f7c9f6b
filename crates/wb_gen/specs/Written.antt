-- An image into which a program is being written.
use Rattle.std.specs.Prelude.{◌≡◌, ℕ, ◌-◌, ◌≤◌, drop, replicate}
use Rattle.wb_rom.specs.declared.images.Image.{Image}

-- so many program words are written, and all places after them hold 0
pub record IsWritten (count : ℕ) (image : Image) : Type 0 where
  pub within : count ≤ 2048
  pub rest : drop count image.prog ≡ replicate (2048 - count) 0
  pub drom : image.drom ≡ replicate 1024 0
