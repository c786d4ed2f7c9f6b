-- Placements that a memory takes one after the other: they are within it and apart.
use Rattle.std.proofs.Common.{◌≡◌, ◌≢◌, ℕ, ◌<◌, Bool, true, false, List, [], ◌∷◌, ◌++◌, length, get_or, set, refl, sym, ap, ◌∙◌, subst}
use Rattle.std.specs.Prelude.{⊤}
use Rattle.std.proofs.lemmas.List.{length-set, get_or-set_same, get_or-set_other}
use Rattle.wb_asm.specs.Placing.{Placement, Each, AreApart}

-- each is free when it comes
abbrev pub Fits : List Bool → List Placement → Type 0
Fits taken [] = ⊤
Fits taken (p ∷ ps) = (p.address < length taken) × (get_or taken p.address false ≡ false) × Fits (set taken p.address true) ps

pub each_mapped : {X : Type 0} (P Q : X → Type 0) (xs : List X) → ((x : X) → P x → Q x) → Each P xs → Each Q xs
each_mapped P Q [] f h = tt
each_mapped P Q (x ∷ xs) f h = (f x h.0, each_mapped P Q xs f h.1)

pub each_both : {X : Type 0} (P Q R : X → Type 0) (xs : List X) → ((x : X) → P x → Q x → R x) → Each P xs → Each Q xs → Each R xs
each_both P Q R [] f g h = tt
each_both P Q R (x ∷ xs) f g h = (f x g.0 h.0, each_both P Q R xs f g.1 h.1)

-- a place is free in this memory
pub record IsFree (taken : List Bool) (p : Placement) : Type 0 where
  pub within : p.address < length taken
  pub free : get_or taken p.address false ≡ false

not_both : (b : Bool) → b ≡ true → b ≡ false → ⊥
not_both b t f = cc

other_place : (taken : List Bool) (p q : Placement) → p.address < length taken → IsFree (set taken p.address true) q → q.address ≢ p.address
other_place taken p q room h e =
    not_both (get_or (set taken p.address true) q.address false)
    (ap (λ k. get_or (set taken p.address true) k false) e ∙ get_or-set_same taken p.address true false room) h.free

free_before : (taken : List Bool) (p q : Placement) → p.address < length taken → IsFree (set taken p.address true) q → IsFree taken q
free_before taken p q room h = record {
  within = subst (λ (n : ℕ). q.address < n) (length-set taken p.address true) h.within;
  free = sym (get_or-set_other taken p.address q.address true false (other_place taken p q room h)) ∙ h.free;
}

free_after : (taken : List Bool) (p q : Placement) → IsFree taken q → q.address ≢ p.address → IsFree (set taken p.address true) q
free_after taken p q h apart = record {
  within = subst (λ (n : ℕ). q.address < n) (sym (length-set taken p.address true)) h.within;
  free = get_or-set_other taken p.address q.address true false apart ∙ h.free;
}

pub fits_free : (taken : List Bool) (ps : List Placement) → Fits taken ps → Each (IsFree taken) ps
fits_free taken [] h = tt
fits_free taken (p ∷ ps) h = (
  record { within = h.0; free = h.1 },
  each_mapped (IsFree (set taken p.address true)) (IsFree taken) ps (λ q. free_before taken p q h.0) (fits_free (set taken p.address true) ps h.2),
)

pub fits_apart : (taken : List Bool) (ps : List Placement) → Fits taken ps → AreApart ps
fits_apart taken [] h = tt
fits_apart taken (p ∷ ps) h = (
  each_mapped (IsFree (set taken p.address true)) (λ q. q.address ≢ p.address) ps (λ q. other_place taken p q h.0) (fits_free (set taken p.address true) ps h.2),
  fits_apart (set taken p.address true) ps h.2,
)

pub apart_fits : (taken : List Bool) (ps : List Placement) → Each (IsFree taken) ps → AreApart ps → Fits taken ps
apart_fits taken [] free apart = tt
apart_fits taken (p ∷ ps) free apart = (
  free.0.within,
  free.0.free,
  apart_fits (set taken p.address true) ps
      (each_both (IsFree taken) (λ q. q.address ≢ p.address) (IsFree (set taken p.address true)) ps (λ q. free_after taken p q) free.1 apart.0)
      apart.1,
)

-- a memory with these words
abbrev pub filled : List ℕ → List Placement → List ℕ
filled memory [] = memory
filled memory (p ∷ ps) = filled (set memory p.address p.word) ps

pub filled_append : (memory : List ℕ) (ps qs : List Placement) → filled memory (ps ++ qs) ≡ filled (filled memory ps) qs
filled_append memory [] qs = refl
filled_append memory (p ∷ ps) qs = filled_append (set memory p.address p.word) ps qs

pub filled_length : (memory : List ℕ) (ps : List Placement) → length (filled memory ps) ≡ length memory
filled_length memory [] = refl
filled_length memory (p ∷ ps) = filled_length (set memory p.address p.word) ps ∙ length-set memory p.address p.word

apart_sym : (a b : ℕ) → a ≢ b → b ≢ a
apart_sym a b h e = h (sym e)

pub filled_other : (memory : List ℕ) (ps : List Placement) (k : ℕ) → Each (λ p. p.address ≢ k) ps → get_or (filled memory ps) k 0 ≡ get_or memory k 0
filled_other memory [] k h = refl
filled_other memory (p ∷ ps) k h =
    filled_other (set memory p.address p.word) ps k h.1 ∙ get_or-set_other memory p.address k p.word 0 (apart_sym p.address k h.0)

pub filled_words : (memory : List ℕ) (ps : List Placement) → Each (λ p. p.address < length memory) ps → AreApart ps
    → Each (λ p. get_or (filled memory ps) p.address 0 ≡ p.word) ps
filled_words memory [] within apart = tt
filled_words memory (p ∷ ps) within apart = (
  filled_other (set memory p.address p.word) ps p.address apart.0 ∙ get_or-set_same memory p.address p.word 0 within.0,
  filled_words (set memory p.address p.word) ps
      (each_mapped (λ q. q.address < length memory) (λ q. q.address < length (set memory p.address p.word)) ps
      (λ q. subst (λ (n : ℕ). q.address < n) (sym (length-set memory p.address p.word))) within.1)
      apart.1,
)
