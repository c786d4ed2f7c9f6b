-- Walks over plain words: when a loop closes, and that following until the first address comes back finds it.
use Rattle.std.proofs.Common.{◌≡◌, ◌≢◌, ℕ, zero, suc, ◌+◌, ◌-◌, ◌<◌, ◌≤◌, inl, inr, Bool, true, false, ◌&&◌, ◌||◌, ◌==◌, refl, sym, ◌∙◌, ap, subst, arith, cond, zero-add}
use Rattle.std.specs.List.{list_all, list_any}
use Rattle.std.proofs.lemmas.Bool.{eqb-true, eqb-false, eq-eqb, ne_eqb, and_parts, and_from, and_left, and_right, or_from, or_left, or_right, false_from_ne_true, both_ways, not_from_false, not-true, cases_eq}
use Rattle.wb_rom.specs.declared.images.Image.{Image}
use Rattle.wb_port.specs.Wait.{is_plain, is_test, word_of, follow, follow_times, walk, all_different, tests_among, is_loop, is_poll}

-- the tests among the first words of a walk
abbrev pub tests : Image → ℕ → ℕ → ℕ
tests image m at = tests_among image (walk image m at)

abbrev pub plain : Image → ℕ → ℕ → Bool
plain image m at = list_all (λ a. is_plain (word_of image a)) (walk image m at)

-- following is additive
pub follow-add : (image : Image) (m n at : ℕ) → follow_times image (m + n) at ≡ follow_times image n (follow_times image m at)
follow-add image zero n at = rw zero-add refl
follow-add image (suc m) n at =
    let e : suc m + n ≡ suc (m + n) = omega arith in
    ap (λ (k : ℕ). follow_times image k at) e ∙ follow-add image m n (follow image at)

pub follow-suc : (image : Image) (m at : ℕ) → follow_times image (suc m) at ≡ follow image (follow_times image m at)
follow-suc image zero at = refl
follow-suc image (suc m) at = follow-suc image m (follow image at)

-- a walk of one more word has the next address at its end
pub plain-suc : (image : Image) (m at : ℕ) → plain image (suc m) at ≡ (plain image m at && is_plain (word_of image (follow_times image m at)))
plain-suc image zero at = grind arith
plain-suc image (suc m) at = rw (plain-suc image m (follow image at)) (grind arith)

pub tests-suc : (image : Image) (m at : ℕ) → tests image (suc m) at ≡ tests image m at + cond (is_test (word_of image (follow_times image m at))) 1 0
tests-suc image zero at = omega arith
tests-suc image (suc m) at =
    joined (cond (is_test (word_of image at)) 1 0) _ _ _ (tests-suc image m (follow image at))
  where
    joined : (a c d e : ℕ) → c ≡ d + e → a + c ≡ a + d + e
    joined a c d e h = omega arith

-- each word of a plain walk is plain
pub plain-at : (image : Image) (m j at : ℕ) → j < m → plain image m at ≡ true → is_plain (word_of image (follow_times image j at)) ≡ true
plain-at image zero j at less h = absurd (omega arith)
plain-at image (suc m) zero at less h = (and_parts _ _ h).0
plain-at image (suc m) (suc j) at less h = plain-at image m j (follow image at) (omega arith) (and_parts _ _ h).1

-- an address that is none of a walk's is not found in it
pub not_in_walk : (image : Image) (m x at : ℕ) → ((j : ℕ) → j < m → follow_times image j at ≢ x) → list_any (λ y. y == x) (walk image m at) ≡ false
not_in_walk image zero x at h = refl
not_in_walk image (suc m) x at h =
    or_from _ _ (ne_eqb _ _ (h 0 (omega arith)))
    (not_in_walk image m x (follow image at) (λ j less. h (suc j) (omega arith)))

pub in_walk : (image : Image) (m j x at : ℕ) → j < m → follow_times image j at ≡ x → list_any (λ y. y == x) (walk image m at) ≡ true
in_walk image zero j x at less e = absurd (omega arith)
in_walk image (suc m) zero x at less e = or_left _ _ (eq-eqb _ _ e)
in_walk image (suc m) (suc j) x at less e = or_right _ _ (in_walk image m j x (follow image at) (omega arith) e)

-- where no two addresses of a walk are equal, all are different, and the other way round
pub different : (image : Image) (m at : ℕ) → ((p q : ℕ) → p < q → q < m → follow_times image p at ≢ follow_times image q at) → all_different (walk image m at) ≡ true
different image zero at h = refl
different image (suc m) at h =
    and_from _ _
    (not_from_false _ (not_in_walk image m at (follow image at) (λ j less e. h 0 (suc j) (omega arith) (omega arith) (sym e))))
    (different image m (follow image at) (λ p q less inside. h (suc p) (suc q) (omega arith) (omega arith)))

pub different-at : (image : Image) (m p q at : ℕ) → all_different (walk image m at) ≡ true → p < q → q < m → follow_times image p at ≢ follow_times image q at
different-at image zero p q at h less inside = absurd (omega arith)
different-at image (suc m) zero zero at h less inside = absurd (omega arith)
different-at image (suc m) zero (suc q) at h less inside =
    λ e. both_ways _ (not-true _ (and_parts _ _ h).0) (in_walk image m q at (follow image at) (omega arith) (sym e))
different-at image (suc m) (suc p) zero at h less inside = absurd (omega arith)
different-at image (suc m) (suc p) (suc q) at h less inside = different-at image m p q (follow image at) (and_parts _ _ h).1 (omega arith) (omega arith)

-- where an address comes back for the first time after m words, the m addresses are different
pub first_return : (image : Image) (m at : ℕ) → follow_times image m at ≡ at → ((j : ℕ) → 0 < j → j < m → follow_times image j at ≢ at) → all_different (walk image m at) ≡ true
first_return image m at back new = different image m at (λ p q less inside. apart p q less inside)
  where
    apart : (p q : ℕ) → p < q → q < m → follow_times image p at ≢ follow_times image q at
    apart p q less inside e =
        let far : follow_times image (p + (m - q)) at ≡ at =
        follow-add image p (m - q) at ∙ ap (follow_times image (m - q)) e ∙ sym (follow-add image q (m - q) at)
        ∙ ap (λ k. follow_times image k at) (let k : q + (m - q) ≡ m = omega arith in k) ∙ back in
        new (p + (m - q)) (omega arith) (omega arith) far

-- a loop has m words only where the first address comes back after them, its words are plain, and they are different
pub no_return : (image : Image) (m at : ℕ) → follow_times image m at ≢ at → is_loop image at m ≡ false
unfolding is_loop
no_return image m at h = and_right _ _ (ne_eqb _ _ h)

pub not_plain : (image : Image) (m j at : ℕ) → j < m → is_plain (word_of image (follow_times image j at)) ≡ false → is_loop image at m ≡ false
unfolding is_loop
not_plain image m j at less h =
    and_left _ _ (and_left _ _ (and_right _ _ (false_from_ne_true _ (λ t. both_ways _ h (plain-at image m j at less t)))))

pub returned_before : (image : Image) (m j at : ℕ) → 0 < j → j < m → follow_times image j at ≡ at → is_loop image at m ≡ false
unfolding is_loop
returned_before image m j at some less back =
    and_left _ _ (and_left _ _ (and_left _ _ (false_from_ne_true _ (λ t. different-at image m 0 j at t some less (sym back)))))

-- where the first address comes back for the first time after m plain words, they are a loop where one is a test
pub closes : (image : Image) (m at : ℕ) → plain image m at ≡ true → follow_times image m at ≡ at → ((j : ℕ) → 0 < j → j < m → follow_times image j at ≢ at) → is_loop image at m ≡ (tests image m at == 1)
unfolding is_loop
closes image m at all back new =
    let d = first_return image m at back new in
    let r = eq-eqb _ _ back in
    simp (d, all, r) (last (tests image m at == 1))
  where
    last : (b : Bool) → (b && true) ≡ b
    last true = refl
    last false = refl

-- whether one of the f loops of more than i words is one
abbrev pub loops_above : Image → ℕ → ℕ → ℕ → Bool
loops_above image at i zero = false
loops_above image at i (suc f) = is_loop image at (suc i) || loops_above image at (suc i) f

pub none_above : (image : Image) (at i f : ℕ) → ((m : ℕ) → i < m → is_loop image at m ≡ false) → loops_above image at i f ≡ false
none_above image at i zero h = refl
none_above image at i (suc f) h = or_from _ _ (h (suc i) (omega arith)) (none_above image at (suc i) f (λ m less. h m (omega arith)))

-- the poll that is sought by following at most f words further, with these tests so far
abbrev pub sought : Image → ℕ → ℕ → ℕ → ℕ → Bool
sought image at zero here t = false
sought image at (suc f) here t =
    cond (is_plain (word_of image here))
    (cond (follow image here == at)
    ((t + cond (is_test (word_of image here)) 1 0) == 1)
    (sought image at f (follow image here) (t + cond (is_test (word_of image here)) 1 0)))
    false

-- the first i words are plain, and the first address hasn't come back
pub record IsFront (image : Image) (at i : ℕ) : Type 0 where
  pub all : plain image i at ≡ true
  pub new : (j : ℕ) → 0 < j → j ≤ i → follow_times image j at ≢ at

pub sought-is : (image : Image) (at f i : ℕ) → IsFront image at i → sought image at f (follow_times image i at) (tests image i at) ≡ loops_above image at i f
sought-is image at zero i front = refl
sought-is image at (suc f) i front = by_plain (λ next. sought-is image at f (suc i) next) (is_plain (word_of image here)) refl
  where
    here : ℕ
    here = follow_times image i at

    or_false : (b : Bool) → (b || false) ≡ b
    or_false true = refl
    or_false false = refl

    newer : (j : ℕ) → 0 < j → j ≤ suc i → follow_times image (suc i) at ≢ at → follow_times image j at ≢ at
    newer j some most far = elim (cases_eq j (suc i)) [ inl e ↦ subst (λ (k : ℕ). follow_times image k at ≢ at) (sym e) far | inr ne ↦ front.new j some (omega arith) ]

    more : ℕ
    more = tests image i at + cond (is_test (word_of image here)) 1 0

    Ih : Type 0
    Ih = IsFront image at (suc i) → sought image at f (follow_times image (suc i) at) (tests image (suc i) at) ≡ loops_above image at (suc i) f

    by_return : Ih → (is_plain (word_of image here) ≡ true) → (b : Bool) → (follow image here == at) ≡ b → cond b (more == 1) (sought image at f (follow image here) more) ≡ loops_above image at i (suc f)
    by_return ih p true back =
        let round : follow_times image (suc i) at ≡ at = follow-suc image i at ∙ eqb-true _ _ back in
        let all : plain image (suc i) at ≡ true = plain-suc image i at ∙ and_from _ _ front.all p in
        let new : (j : ℕ) → 0 < j → j < suc i → follow_times image j at ≢ at = λ j some less. front.new j some (omega arith) in
        let loop : is_loop image at (suc i) ≡ (tests image (suc i) at == 1) = closes image (suc i) at all round new in
        let rest : loops_above image at (suc i) f ≡ false =
        none_above image at (suc i) f (λ m less. returned_before image m (suc i) at (omega arith) less round) in
        let count : tests image (suc i) at ≡ more = tests-suc image i at in
        sym (rw (loop, rest, count) (or_false (more == 1)))
    by_return ih p false away =
        let here_suc : follow_times image (suc i) at ≡ follow image here = follow-suc image i at in
        let far : follow_times image (suc i) at ≢ at = λ e. eqb-false _ _ away (sym here_suc ∙ e) in
        let all : plain image (suc i) at ≡ true = plain-suc image i at ∙ and_from _ _ front.all p in
        let count : tests image (suc i) at ≡ more = tests-suc image i at in
        let loop : is_loop image at (suc i) ≡ false = no_return image (suc i) at far in
        let front_next : IsFront image at (suc i) = record { all = all; new = λ j some most. newer j some most far } in
        rw loop (rw (here_suc, count) at (ih front_next))

    by_plain : Ih → (b : Bool) → is_plain (word_of image here) ≡ b → cond b (cond (follow image here == at) (more == 1) (sought image at f (follow image here) more)) false ≡ loops_above image at i (suc f)
    by_plain ih true p = by_return ih p (follow image here == at) refl
    by_plain ih false p = sym (none_above image at i (suc f) (λ m less. not_plain image m i at less p))

-- following from the address itself finds its loop
pub poll_is_sought : (image : Image) (at : ℕ) → sought image at 8 at 0 ≡ is_poll image at
unfolding is_poll
poll_is_sought image at =
    sought-is image at 8 0 (record { all = refl; new = λ j some none. absurd (omega arith) })

-- the step of that search, with more words left
pub sought_stops : (image : Image) (at f here t : ℕ) → is_plain (word_of image here) ≡ false → sought image at (suc f) here t ≡ false
sought_stops image at f here t h = rw h refl

pub sought_closes : (image : Image) (at f here t : ℕ) → is_plain (word_of image here) ≡ true → follow image here ≡ at → sought image at (suc f) here t ≡ (t + cond (is_test (word_of image here)) 1 0 == 1)
sought_closes image at f here t h e = rw (h, eq-eqb _ _ e) refl

pub sought_goes_on : (image : Image) (at f here t : ℕ) → is_plain (word_of image here) ≡ true → follow image here ≢ at → sought image at (suc f) here t ≡ sought image at f (follow image here) (t + cond (is_test (word_of image here)) 1 0)
sought_goes_on image at f here t h e = rw (h, ne_eqb _ _ e) refl

-- one turn of that search keeps what is sought, and finds one test at most
pub sought_turn : (image : Image) (at here next t b i : ℕ) → i < 8 → sought image at (8 - i) here t ≡ is_poll image at → t ≤ i → is_plain (word_of image here) ≡ true → next ≡ follow image here → next ≢ at → b ≡ cond (is_test (word_of image here)) 1 0 → (sought image at (8 - (i + 1)) next (t + b) ≡ is_poll image at) × (t + b ≤ i + 1)
sought_turn image at here next t b i less h few p n away bit = (turned, few_more)
  where
    size : 8 - i ≡ suc (8 - (i + 1))
    size = omega arith

    turned : sought image at (8 - (i + 1)) next (t + b) ≡ is_poll image at
    turned =
        let step : sought image at (suc (8 - (i + 1))) here t ≡ sought image at (8 - (i + 1)) (follow image here) (t + cond (is_test (word_of image here)) 1 0) =
        sought_goes_on image at (8 - (i + 1)) here t p (λ e. away (n ∙ e)) in
        let whole : sought image at (suc (8 - (i + 1))) here t ≡ is_poll image at =
        subst (λ (k : ℕ). sought image at k here t ≡ is_poll image at) size h in
        rw (n, bit) (sym step ∙ whole)

    few_more : t + b ≤ i + 1
    few_more = by_test (is_test (word_of image here)) b bit
      where
        by_test : (s : Bool) (d : ℕ) → d ≡ cond s 1 0 → t + d ≤ i + 1
        by_test true d e = omega arith
        by_test false d e = omega arith
