-- The demo pair of a number: two images whose programs differ in words that do nothing.
use Rattle.std.specs.Prelude.{◌≡◌, ℕ, zero, suc, ◌+◌, ◌-◌, ◌*◌, ◌/◌, ◌%◌, ◌^◌, Bool, true, false, List, [], ◌∷◌, ◌++◌, map, length, get_or, replicate, All, Contains}
use Rattle.std.specs.List.{range_with_len}
use Rattle.wb_word.specs.Codes.{p_code, src_code, dst_code}
use Rattle.wb_word.specs.Encoding.{instr_of}
use Rattle.wb_word.specs.declared.codes.Dpl.TheVariants as dpl
use Rattle.wb_word.specs.declared.codes.Dst.{Dst}
use Rattle.wb_word.specs.declared.codes.Dst.TheVariants as dst
use Rattle.wb_word.specs.declared.codes.P.TheVariants as p
use Rattle.wb_word.specs.declared.codes.Src.{Src}
use Rattle.wb_word.specs.declared.codes.Src.TheVariants as src
use Rattle.wb_word.specs.declared.words.OpWord.{OpWord}
use Rattle.wb_word.specs.declared.words.Instr.TheVariants.{Op}
use Rattle.wb_rom.specs.declared.images.Image.{Image}

-- one number drawn after another, below 2^64
abbrev pub next_drawn : ℕ → ℕ
next_drawn x = (x * 6364136223846793005 + 1442695040888963407) % 2 ^ 64

-- the numbers that are drawn: the first is the given one
unfoldable pub drawn : ℕ → ℕ → ℕ
drawn number zero = number
drawn number (suc i) = next_drawn (drawn number i)

-- where body words take their value from, and where they move it to
abbrev pub body_sources : List Src
body_sources = src.A ∷ src.B ∷ src.Tr ∷ src.Trb ∷ src.K ∷ src.L ∷ src.Sgn ∷ src.Rp ∷ []

abbrev pub body_targets : List Dst
body_targets = dst.Non ∷ dst.Tr ∷ dst.Trb ∷ dst.K ∷ dst.L ∷ dst.Non ∷ dst.Non ∷ dst.A ∷ []

-- the body word of some drawn bits: bits 3 to 0 are its operation, bit 4 its accumulator, bits 7 to 5 the place of
-- its source and bits 10 to 8 that of its target; its operand is the bus, and all its other fields are 0
unfoldable pub word_of_bits : ℕ → ℕ
word_of_bits d =
    p_code p.Idb * 2 ^ 20 + d % 16 * 2 ^ 16 + d / 2 ^ 4 % 2 * 2 ^ 15
    + src_code (get_or body_sources (d / 2 ^ 5 % 8) src.A) * 2 ^ 4
    + dst_code (get_or body_targets (d / 2 ^ 8 % 8) dst.Non)

-- body word i, by the bits of drawn number i above its 40 lowest
abbrev pub body_word : ℕ → ℕ → ℕ
body_word number i = word_of_bits (drawn number i / 2 ^ 40)

-- the body of a number: 64 words
unfoldable pub body_of : ℕ → List ℕ
body_of number = map (body_word number) (range_with_len 1 64)

-- these words with a word 0 after each second one, beginning with the first or with the second
abbrev pub padded : Bool → List ℕ → List ℕ
padded _ [] = []
padded true (word ∷ rest) = word ∷ 0 ∷ padded false rest
padded false (word ∷ rest) = word ∷ padded true rest

-- what stands before a body and after it
abbrev pub opening : List ℕ
opening = 0xC10007 ∷ 0x000026 ∷ 0x97C008 ∷ 0x000091 ∷ []

abbrev pub closing : List ℕ
closing = 0x138010 ∷ 0xA00004 ∷ []

-- the image holds this program from address 0 on, and 0 at all other places
pub record HoldsProgram (program : List ℕ) (image : Image) : Type 0 where
  pub prog : image.prog ≡ program ++ replicate (2048 - length program) 0
  pub drom : image.drom ≡ replicate 1024 0

-- the two images of a body: in the second a word 0 follows the first, third, .. body word
pub record IsPairOf (body : List ℕ) (a b : Image) : Type 0 where
  pub first : HoldsProgram (opening ++ body ++ closing) a
  pub second : HoldsProgram (opening ++ padded true body ++ closing) b

-- a word that computes with the bus, changes no pointer, and moves between the sources and targets of bodies
pub record IsBodyWord (word : ℕ) : Type 0 where
  pub op : OpWord
  pub decoded : instr_of word ≡ Op op
  pub operand : op.p ≡ p.Idb
  pub low : op.dpl ≡ dpl.DpNop
  pub high : op.dphm.value ≡ 0
  pub rpdec : op.rpdec ≡ false
  pub source : Contains body_sources op.src
  pub goal : Contains body_targets op.dst

-- 64 such words
pub record IsBody (body : List ℕ) : Type 0 where
  pub len : length body ≡ 64
  pub words : All IsBodyWord body
