-- The file of an image: 8192 bytes, first the 2048 program words of three bytes, then the 1024 data words of
-- two bytes, each with its low byte first.
use Rattle.std.specs.Prelude.{◌≡◌, ◌≢◌, ℕ, ◌+◌, ◌*◌, ◌<◌, List, length, slice_index}
use Rattle.wb_rom.specs.declared.images.Image.{Image}
use Rattle.wb_rom.specs.declared.faults.ImageFault.{ImageFault}
use Rattle.wb_rom.specs.declared.faults.ImageFault.TheVariants.{BadLength, OutOfMemory}

-- the first `n` entries are bytes
abbrev pub AreBytes : ℕ → List ℕ → Type 0
AreBytes n xs = (k : ℕ) → k < n → slice_index xs k < 256

-- the number in two bytes from place `at`
abbrev pub pair_at : List ℕ → ℕ → ℕ
pair_at bytes at = slice_index bytes at + 256 * slice_index bytes (at + 1)

-- the number in three bytes from place `at`
abbrev pub triple_at : List ℕ → ℕ → ℕ
triple_at bytes at = pair_at bytes at + 65536 * slice_index bytes (at + 2)

-- the bytes are the file of the image
pub record IsImageOf (bytes : List ℕ) (image : Image) : Type 0 where
  pub len : length bytes ≡ 8192
  pub each_byte : AreBytes 8192 bytes
  pub prog : (k : ℕ) → k < 2048 → slice_index image.prog k ≡ triple_at bytes (3 * k)
  pub drom : (k : ℕ) → k < 1024 → slice_index image.drom k ≡ pair_at bytes (6144 + 2 * k)

-- what is wrong with bytes that give no image: another length, and which; or nothing but the memory
abbrev pub IsFaultOf : List ℕ → ImageFault → Type 0
IsFaultOf bytes (BadLength found) = (length bytes ≡ found) × (length bytes ≢ 8192)
IsFaultOf bytes OutOfMemory = length bytes ≡ 8192
