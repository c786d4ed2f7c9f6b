-- What single words do, over the instructions that they are.
use Rattle.std.proofs.Common.{◌≡◌, ◌≢◌, ℕ, ◌+◌, ◌%◌, refl, ap, ◌∙◌, subst, Option, ◌<◌, arith, replicate}
use Rattle.std.specs.Coded.{le_prop}
use Rattle.std.specs.Prelude.{IfSome}
use Rattle.std.proofs.lemmas.Bool.{ne_eqb}
use Rattle.wb_rom.specs.declared.images.Image.{Image}
use Rattle.wb_word.specs.Encoding.{instr_of, addr_at}
use Rattle.wb_machine.specs.State.{reset, power}
use Rattle.wb_word.specs.declared.words.Instr.{Instr}
use Rattle.wb_word.specs.declared.numbers.Addr.{Addr}
use Rattle.wb_port.specs.Wait.{instr_follow, instr_is_plain_jump, is_plain, follow, word_of}

-- the word 0 does nothing, and the address after it comes
pub nothing : (at : ℕ) → instr_follow (instr_of 0) at ≡ (at + 1) % 2048
unfolding instr_of
nothing at = refl

-- a word that isn't 0 is plain where its instruction is a plain jump
pub jump_is_plain : (i : Instr) (w : ℕ) → i ≡ instr_of w → w ≢ 0 → instr_is_plain_jump i ≡ is_plain w
unfolding is_plain
jump_is_plain i w e some = rw (ne_eqb w 0 some) (ap instr_is_plain_jump e)

-- what follows an instruction follows its word
pub jump_leads : (image : Image) (at : ℕ) (i : Instr) (w : ℕ) (to : Option Addr) → i ≡ instr_of w → w ≡ word_of image at → IfSome to (λ n. n.value ≡ instr_follow i at) → IfSome to (λ n. n.value ≡ follow image at)
unfolding follow
jump_leads image at i w to e s h =
    let P : Instr → Type 0 = λ j. IfSome to (λ n. n.value ≡ instr_follow j at) in
    subst P (e ∙ ap instr_of s) h

-- the address that a number in range gives is that number
pub addr_is : (a : Addr) → addr_at a.value ≡ a
addr_is a =
    let same : a.value % 2048 ≡ a.value = let h : a.value < 2048 = a.in_range in omega arith in
    let P : ℕ → Type 0 = λ n. (h : n < 2048) → addr_at a.value ≡ (let x : Addr = record { value = n; in_range = h } in x) in
    subst P same (λ h. ap (λ (k : a.value % 2048 < 2048). let x : Addr = record { value = a.value % 2048; in_range = k } in x) (le_prop (addr_at a.value).in_range h)) a.in_range

pub reset_is : reset ≡ power (replicate 256 0)
unfolding reset
reset_is = refl
