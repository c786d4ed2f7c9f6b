-- The way from a poll to the test of its loop; loops are one.
use Rattle.std.proofs.Common.{◌≡◌, ℕ, suc, ◌+◌, ◌<◌, inl, inr, true, false, refl, sym, ◌∙◌, ap, subst, arith}
use Rattle.std.proofs.lemmas.Bool.{cases_order, both_ways}
use Rattle.wb_rom.specs.declared.images.Image.{Image}
use Rattle.wb_port.specs.Wait.{is_test, is_poll, word_of, follow, to_gate}
use Rattle.wb_port.proofs.Circles.{IsWaitLoop, is_loop_of, follow_poll, nearer, gate_near}
use Rattle.wb_port.proofs.Walks.{returned_before}

pub at_gate : (image : Image) (at : ℕ) → is_test (word_of image at) ≡ true → to_gate image at ≡ 0
unfolding to_gate
at_gate image at h = rw h refl

-- so many words after the poll, the test is so much nearer
pub record IsOnTheWay (image : Image) (at here words : ℕ) : Type 0 where
  pub poll : is_poll image here ≡ true
  pub sum : words + to_gate image here ≡ to_gate image at
  pub few : to_gate image at < 8

pub way_begins : (image : Image) (at : ℕ) → is_poll image at ≡ true → IsOnTheWay image at at 0
way_begins image at h = record { poll = h; sum = omega arith; few = gate_near image at h }

pub way_goes_on : (image : Image) (at here next words : ℕ) → IsOnTheWay image at here words → is_test (word_of image here) ≡ false → next ≡ follow image here → IsOnTheWay image at next (words + 1)
way_goes_on image at here next words w other e =
    record {
      poll = subst (λ (x : ℕ). is_poll image x ≡ true) (sym e) (follow_poll image here w.poll);
      sum =
          let n : to_gate image here ≡ suc (to_gate image next) = nearer image here w.poll other ∙ ap (λ (x : ℕ). suc (to_gate image x)) (sym e) in
          let s : words + to_gate image here ≡ to_gate image at = w.sum in
          omega arith;
      few = w.few;
    }

pub way_nearer : (image : Image) (at here next words : ℕ) → IsOnTheWay image at here words → is_test (word_of image here) ≡ false → next ≡ follow image here → to_gate image next < to_gate image here
way_nearer image at here next words w other e =
    let n : to_gate image here ≡ suc (to_gate image next) = nearer image here w.poll other ∙ ap (λ (x : ℕ). suc (to_gate image x)) (sym e) in
    omega arith

pub way_ends : (image : Image) (at here words : ℕ) → IsOnTheWay image at here words → is_test (word_of image here) ≡ true → words ≡ to_gate image at
way_ends image at here words w h =
    let z : to_gate image here ≡ 0 = at_gate image here h in
    let s : words + to_gate image here ≡ to_gate image at = w.sum in
    omega arith

-- an address begins one loop at most
pub one_loop : (image : Image) (at m n : ℕ) → IsWaitLoop image at m → IsWaitLoop image at n → m ≡ n
one_loop image at m n l k =
    elim (cases_order m n) [
      | inl e ↦ e
      | inr r ↦ elim r [
        | inl less ↦ absurd (longer m n less l k)
        | inr more ↦ absurd (longer n m more k l)
      ]
    ]
  where
    longer : (x y : ℕ) → x < y → IsWaitLoop image at x → IsWaitLoop image at y → ⊥
    longer x y less s t = both_ways _ (returned_before image y x at s.some less s.back) (is_loop_of image at y t)

pub way_short : (image : Image) (at here words : ℕ) → IsOnTheWay image at here words → words < 8
way_short image at here words w =
    let s : words + to_gate image here ≡ to_gate image at = w.sum in
    let f : to_gate image at < 8 = w.few in
    omega arith
