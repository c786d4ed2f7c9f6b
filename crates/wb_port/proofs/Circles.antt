-- Wait loops: each address of one is a poll, and how far it is before the test.
use Rattle.std.proofs.Common.{◌≡◌, ◌≢◌, ℕ, zero, suc, ◌+◌, ◌<◌, ◌≤◌, inl, inr, Bool, true, false, refl, sym, ◌∙◌, ap, subst, arith, cond}
use Rattle.std.proofs.lemmas.Bool.{eqb-true, eq-eqb, and_parts, and_from, or_left, or_right, or_cases, cases_eq, false≢true}
use Rattle.wb_rom.specs.declared.images.Image.{Image}
use Rattle.wb_port.specs.Wait.{is_plain, is_test, word_of, follow, follow_times, walk, all_different, is_loop, is_poll, before_test, to_gate}
use Rattle.wb_port.proofs.Walks.{tests, plain, plain-suc, tests-suc, plain-at, different, different-at, loops_above, follow-suc}

-- the address begins a loop of m words
pub record IsWaitLoop (image : Image) (at m : ℕ) : Type 0 where
  pub some : 0 < m
  pub most : m ≤ 8
  pub apart : all_different (walk image m at) ≡ true
  pub all : plain image m at ≡ true
  pub one : tests image m at ≡ 1
  pub back : follow_times image m at ≡ at

pub loop_of : (image : Image) (at m : ℕ) → 0 < m → m ≤ 8 → is_loop image at m ≡ true → IsWaitLoop image at m
unfolding is_loop
loop_of image at m some most h =
    let b = and_parts _ _ h in
    let t = and_parts _ _ b.0 in
    let d = and_parts _ _ t.0 in
    record { some = some; most = most; apart = d.0; all = d.1; one = eqb-true _ _ t.1; back = eqb-true _ _ b.1 }

pub is_loop_of : (image : Image) (at m : ℕ) → IsWaitLoop image at m → is_loop image at m ≡ true
unfolding is_loop
is_loop_of image at m l =
    and_from _ _ (and_from _ _ (and_from _ _ l.apart l.all) (eq-eqb _ _ l.one)) (eq-eqb _ _ l.back)

some_above : (image : Image) (at i f : ℕ) → loops_above image at i f ≡ true → (m : ℕ) × ((i < m) × ((m ≤ i + f) × (is_loop image at m ≡ true)))
some_above image at i zero h = absurd (false≢true h)
some_above image at i (suc f) h =
    elim (or_cases _ _ h) [
      | inl here ↦ (suc i, (omega arith, (omega arith, here)))
      | inr later ↦ let r = some_above image at (suc i) f later in (r.0, (omega arith, (omega arith, r.1.1.1)))
    ]

is_above : (image : Image) (at i f m : ℕ) → i < m → m ≤ i + f → is_loop image at m ≡ true → loops_above image at i f ≡ true
is_above image at i zero m more most h = absurd (omega arith)
is_above image at i (suc f) m more most h =
    elim (cases_eq m (suc i)) [
      | inl e ↦ or_left _ _ (subst (λ (k : ℕ). is_loop image at k ≡ true) e h)
      | inr ne ↦ or_right _ _ (is_above image at (suc i) f m (omega arith) (omega arith) h)
    ]

-- a poll begins a loop, and what begins a loop is a poll
pub poll_loop : (image : Image) (at : ℕ) → is_poll image at ≡ true → (m : ℕ) × IsWaitLoop image at m
unfolding is_poll
poll_loop image at h =
    let r = some_above image at 0 8 h in
    (r.0, loop_of image at r.0 r.1.0 (let k : r.0 ≤ 0 + 8 = r.1.1.0 in omega arith) r.1.1.1)

pub loop_poll : (image : Image) (at m : ℕ) → IsWaitLoop image at m → is_poll image at ≡ true
unfolding is_poll
loop_poll image at m l =
    is_above image at 0 8 m l.some (let k : m ≤ 8 = l.most in omega arith) (is_loop_of image at m l)

-- the next address of a loop begins the same loop
pub turned_loop : (image : Image) (at m : ℕ) → IsWaitLoop image at m → IsWaitLoop image (follow image at) m
turned_loop image at m l =
    record {
      some = l.some;
      most = l.most;
      apart = different image m (follow image at) (λ p q less inside. apart p q less inside);
      all = all_plain;
      one = one_test;
      back = follow-suc image m at ∙ ap (follow image) l.back;
    }
  where
    apart : (p q : ℕ) → p < q → q < m → follow_times image (suc p) at ≢ follow_times image (suc q) at
    apart p q less inside e =
        elim (cases_eq (suc q) m) [
          | inl last ↦ different-at image m 0 (suc p) at l.apart (omega arith) (omega arith)
              (sym (subst (λ (k : ℕ). follow_times image (suc p) at ≡ follow_times image k at) last e ∙ l.back))
          | inr ne ↦ different-at image m (suc p) (suc q) at l.apart (omega arith) (omega arith) e
        ]

    all_plain : plain image m (follow image at) ≡ true
    all_plain =
        let last : is_plain (word_of image (follow_times image m at)) ≡ true =
        subst (λ (k : ℕ). is_plain (word_of image k) ≡ true) (sym l.back) (plain-at image m 0 at l.some l.all) in
        (and_parts (is_plain (word_of image at)) (plain image m (follow image at)) (plain-suc image m at ∙ and_from _ _ l.all last)).1

    rest : (a x t : ℕ) → a + x ≡ t + a → t ≡ 1 → x ≡ 1
    rest a x t e o = omega arith

    one_test : tests image m (follow image at) ≡ 1
    one_test =
        let e : cond (is_test (word_of image at)) 1 0 + tests image m (follow image at) ≡ tests image m at + cond (is_test (word_of image at)) 1 0 =
        subst (λ (k : ℕ). cond (is_test (word_of image at)) 1 0 + tests image m (follow image at) ≡ tests image m at + cond (is_test (word_of image k)) 1 0) l.back (tests-suc image m at) in
        let o : tests image m at ≡ 1 = l.one in
        rest _ _ _ e o

-- where a chip is after a plain word of a poll, it is at a poll again
pub follow_poll : (image : Image) (at : ℕ) → is_poll image at ≡ true → is_poll image (follow image at) ≡ true
follow_poll image at h = let l = poll_loop image at h in loop_poll image (follow image at) l.0 (turned_loop image at l.0 l.1)

pub poll_plain : (image : Image) (at : ℕ) → is_poll image at ≡ true → is_plain (word_of image at) ≡ true
poll_plain image at h = let l = poll_loop image at h in plain-at image l.0 0 at l.1.some l.1.all

-- a test among m words is found before n of them
found : (image : Image) (n m at : ℕ) → m ≤ n → 0 < tests image m at → before_test image n at < m
found image n zero at most some = absurd (omega arith)
found image zero (suc m) at most some = absurd (omega arith)
found image (suc n) (suc m) at most some =
    by_test (is_test (word_of image at)) _ _ (λ s. found image n m (follow image at) (omega arith) s) some
  where
    by_test : (b : Bool) (x t : ℕ) → (0 < t → x < m) → 0 < cond b 1 0 + t → cond b 0 (suc x) < suc m
    by_test true x t ih s = omega arith
    by_test false x t ih s = let k : x < m = ih (omega arith) in omega arith

-- looking further finds the same
further : (image : Image) (n at : ℕ) → before_test image n at < n → before_test image (suc n) at ≡ before_test image n at
further image zero at less = absurd (omega arith)
further image (suc n) at less =
    by_test (is_test (word_of image at)) _ _ (λ s. further image n (follow image at) s) less
  where
    by_test : (b : Bool) (x y : ℕ) → (x < n → y ≡ x) → cond b 0 (suc x) < suc n → cond b 0 (suc y) ≡ cond b 0 (suc x)
    by_test true x y ih s = refl
    by_test false x y ih s = ap suc (ih (omega arith))

pub gate_near : (image : Image) (at : ℕ) → is_poll image at ≡ true → to_gate image at < 8
unfolding to_gate
gate_near image at h =
    let l = poll_loop image at h in
    let f : before_test image 8 at < l.0 = found image 8 l.0 at l.1.most (let e : tests image l.0 at ≡ 1 = l.1.one in omega arith) in
    let most : l.0 ≤ 8 = l.1.most in
    omega arith

-- the next address is nearer to the test
pub nearer : (image : Image) (at : ℕ) → is_poll image at ≡ true → is_test (word_of image at) ≡ false → to_gate image at ≡ suc (to_gate image (follow image at))
unfolding to_gate
nearer image at h other =
    let l = poll_loop image at h in
    let f : before_test image 8 at < l.0 = found image 8 l.0 at l.1.most (let e : tests image l.0 at ≡ 1 = l.1.one in omega arith) in
    let most : l.0 ≤ 8 = l.1.most in
    let step : before_test image 8 at ≡ suc (before_test image 7 (follow image at)) = rw other refl in
    let near : before_test image 7 (follow image at) < 7 = omega arith in
    step ∙ ap suc (sym (further image 7 (follow image at) near))
