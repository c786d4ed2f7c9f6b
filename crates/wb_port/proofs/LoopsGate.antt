-- The test of a wait loop is the same one for all places of the loop.
use Rattle.std.proofs.Common.{subst, ◌≡◌, ℕ, zero, suc, ◌<◌, ◌≤◌, ◌+◌, Bool, true, false, refl, sym, ap, arith, ◌∙◌, ◌⊎◌, inl, inr, cond}
use Rattle.std.specs.Prelude.{if◌then◌else◌}
use Rattle.std.proofs.lemmas.Bool.{cases_Bool}
use Rattle.wb_rom.specs.declared.images.Image.{Image}
use Rattle.wb_port.specs.Wait.{is_test, word_of, follow, follow_times, is_poll, before_test, to_gate}
use Rattle.wb_port.specs.Facts.{gate, IsGateOf}
use Rattle.wb_port.proofs.Walks.{tests}
use Rattle.wb_port.proofs.Circles.{IsWaitLoop, poll_loop, follow_poll, nearer}

-- one for a test, else zero
abbrev tested : Image → ℕ → ℕ
tested image at = cond (is_test (word_of image at)) 1 0

before_here : (image : Image) (m at : ℕ) → is_test (word_of image at) ≡ true → before_test image (suc m) at ≡ 0
before_here image m at test = ap (λ b. if b then 0 else suc (before_test image m (follow image at))) test

before_later : (image : Image) (m at : ℕ) → is_test (word_of image at) ≡ false
    → before_test image (suc m) at ≡ suc (before_test image m (follow image at))
before_later image m at other = ap (λ b. if b then 0 else suc (before_test image m (follow image at))) other

pub gate_here : (image : Image) (at : ℕ) → is_test (word_of image at) ≡ true → to_gate image at ≡ 0
unfolding to_gate
gate_here image at test = before_here image 7 at test

no_test : (b : Bool) → cond {A = ℕ} b 1 0 ≡ 0 → b ≡ false
no_test true h = absurd (omega arith)
no_test false h = refl

-- words of which none is a test, and then one
before_last : (image : Image) (n k at : ℕ)
    → n < k → tests image n at ≡ 0 → is_test (word_of image (follow_times image n at)) ≡ true
    → before_test image k at ≡ n
before_last image n zero at within none test = absurd (omega arith)
before_last image zero (suc k) at within none test = before_here image k at test
before_last image (suc n) (suc k) at within none test =
    let e : tested image at + tests image n (follow image at) ≡ 0 = none in
    let first : tested image at ≡ 0 = omega arith in
    let rest : tests image n (follow image at) ≡ 0 = omega arith in
    before_later image k at (no_test (is_test (word_of image at)) first)
    ∙ ap suc (before_last image n k (follow image at) (omega arith) rest test)

-- from the address after the test of a loop, the next test is the same one
after_gate : (image : Image) (at m : ℕ) → IsWaitLoop image at m → is_test (word_of image at) ≡ true
    → gate image (follow image at) ≡ at
unfolding gate to_gate
after_gate image at zero l test = let some : 0 < 0 = l.some in absurd (omega arith)
after_gate image at (suc n) l test =
    let one : tested image at ≡ 1 = ap (λ b. cond b 1 0) test in
    let all : tested image at + tests image n (follow image at) ≡ 1 = l.one in
    let none : tests image n (follow image at) ≡ 0 = omega arith in
    let most : suc n ≤ 8 = l.most in
    let back : follow_times image n (follow image at) ≡ at = l.back in
    let last : is_test (word_of image (follow_times image n (follow image at))) ≡ true =
    ap (λ a. is_test (word_of image a)) back ∙ test in
    let far : before_test image 8 (follow image at) ≡ n = before_last image n 8 (follow image at) most none last in
    ap (λ j. follow_times image j (follow image at)) far ∙ back

pub gate_turned : (image : Image) (at : ℕ) → is_poll image at ≡ true → gate image (follow image at) ≡ gate image at
unfolding gate
gate_turned image at poll = by (cases_Bool (is_test (word_of image at)))
  where
    by : (is_test (word_of image at) ≡ true) ⊎ (is_test (word_of image at) ≡ false)
        → gate image (follow image at) ≡ gate image at
    by (inl test) =
        let l = poll_loop image at poll in
        after_gate image at l.0 l.1 test ∙ sym (ap (λ j. follow_times image j at) (gate_here image at test))
    by (inr other) = sym (ap (λ j. follow_times image j at) (nearer image at poll other))

-- where no word comes before the test, it is here
zero_here : (image : Image) (m at : ℕ) → before_test image (suc m) at ≡ 0 → is_test (word_of image at) ≡ true
zero_here image m at z = by (cases_Bool (is_test (word_of image at)))
  where
    by : (is_test (word_of image at) ≡ true) ⊎ (is_test (word_of image at) ≡ false) → is_test (word_of image at) ≡ true
    by (inl test) = test
    by (inr other) = let e = before_later image m at other in absurd (let none : suc (before_test image m (follow image at)) ≡ 0 = sym e ∙ z in omega arith)

at_zero : (image : Image) (at : ℕ) → to_gate image at ≡ 0 → is_test (word_of image at) ≡ true
unfolding to_gate
at_zero image at z = zero_here image 7 at z

not_here : (image : Image) (at n : ℕ) → to_gate image at ≡ suc n → is_test (word_of image at) ≡ false
not_here image at n e = by (cases_Bool (is_test (word_of image at)))
  where
    by : (is_test (word_of image at) ≡ true) ⊎ (is_test (word_of image at) ≡ false) → is_test (word_of image at) ≡ false
    by (inl test) = let z = gate_here image at test in absurd (omega arith)
    by (inr other) = other

-- the way to the gate, word by word
gate_by : (image : Image) (n at : ℕ) → is_poll image at ≡ true → to_gate image at ≡ n → IsGateOf image at (follow_times image n at)
gate_by image zero at poll e = record {
  test = at_zero image at e;
  poll = poll;
  first = λ j less. absurd (let none : j < 0 = subst (λ (x : ℕ). j < x) e less in omega arith);
}
gate_by image (suc n) at poll e =
    let other = not_here image at n e in
    let near : to_gate image (follow image at) ≡ n = let s = nearer image at poll other in omega arith in
    let rest = gate_by image n (follow image at) (follow_poll image at poll) near in
    record {
      test = rest.test;
      poll = rest.poll;
      first = λ j less. before j (let l : j < suc n = subst (λ (x : ℕ). j < x) e less in l) other near rest;
    }
  where
    before : (j : ℕ) → j < suc n → is_test (word_of image at) ≡ false → to_gate image (follow image at) ≡ n → IsGateOf image (follow image at) (follow_times image n (follow image at)) → is_test (word_of image (follow_times image j at)) ≡ false
    before zero less other near rest = other
    before (suc j) less other near rest = rest.first j (let l : j < n = omega arith in subst (λ (x : ℕ). j < x) (sym near) l)

pub gates_test : (image : Image) (at : ℕ) → is_poll image at ≡ true → IsGateOf image at (gate image at)
unfolding gate
gates_test image at poll = gate_by image (to_gate image at) at poll refl
