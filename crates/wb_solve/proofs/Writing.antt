-- Values that are written, and literals that are refuted.
use Rattle.std.proofs.Common.{◌≡◌, ℕ, zero, suc, ◌<◌, Bool, true, false, not, if◌then◌else◌, eqb, List, [], ◌∷◌, length, set, replicate, Option, Some, None, refl, ◌∙◌, ap, arith, eq-eqb}
use Rattle.std.specs.List.{slice_get}
use Rattle.std.proofs.lemmas.Bool.{eqb-true}
use Rattle.wb_gate.specs.declared.gates.Lit.{Lit}
use Rattle.wb_gate.specs.Circuit.{minus, variable}
use Rattle.wb_derive.specs.Partial.{Partial, nothing, assume, refute}
use Rattle.wb_solve.specs.Descent.{clause_of}
use Rattle.wb_solve.specs.Course.{value_in, partial_of}

pub set_same : (values : List (Option Bool)) (x : ℕ) (o : Option Bool) → x < length values → slice_get (set values x o) x ≡ Some o
set_same [] x o h = absurd (omega arith)
set_same (v ∷ values) zero o h = refl
set_same (v ∷ values) (suc x) o h = set_same values x o (omega arith)

pub set_other : (values : List (Option Bool)) (x y : ℕ) (o : Option Bool) → (y ≡ x → ⊥) → slice_get (set values x o) y ≡ slice_get values y
set_other [] x y o ne = refl
set_other (v ∷ values) zero zero o ne = absurd (ne refl)
set_other (v ∷ values) zero (suc y) o ne = refl
set_other (v ∷ values) (suc x) zero o ne = refl
set_other (v ∷ values) (suc x) (suc y) o ne = set_other values x y o (λ e. ne (ap suc e))

-- a value that is written is a literal that is made true
pub partial_set : (values : List (Option Bool)) (l : Lit) → l.var < length values → partial_of (set values l.var (Some (not l.neg))) ≡ assume (partial_of values) l
partial_set values l h = λ i x. at x i
  where
    ne_from : (x : ℕ) → eqb x l.var ≡ false → x ≡ l.var → ⊥
    ne_from x e same = let f : eqb x l.var ≡ true = eq-eqb x l.var same in cc

    by : (x : ℕ) (b : Bool) → eqb x l.var ≡ b → value_in (slice_get (set values l.var (Some (not l.neg))) x) ≡ (if b then Some (not l.neg) else value_in (slice_get values x))
    by x true e = ap (λ y. value_in (slice_get (set values l.var (Some (not l.neg))) y)) (eqb-true x l.var e) ∙ ap value_in (set_same values l.var (Some (not l.neg)) h)
    by x false e = ap value_in (set_other values l.var x (Some (not l.neg)) (ne_from x e))

    at : (x : ℕ) → partial_of (set values l.var (Some (not l.neg))) x ≡ assume (partial_of values) l x
    at x = by x (eqb x l.var) refl

none_in : (n x : ℕ) → value_in (slice_get (replicate n None) x) ≡ None
none_in zero x = refl
none_in (suc n) zero = refl
none_in (suc n) (suc x) = none_in n x

pub partial_none : (n : ℕ) → partial_of (replicate n None) ≡ nothing
partial_none n = λ i x. none_in n x i

-- the variable is none of these
abbrev pub AllNot : ℕ → List ℕ → Type 0
AllNot x [] = Unit {0}
AllNot x (y ∷ ys) = (eqb x y ≡ false) × AllNot x ys

pub refute_other : (more : List ℕ) (p : Partial) (x : ℕ) → AllNot x more → refute (clause_of more) p x ≡ p x
refute_other [] p x out = refl
refute_other (y ∷ ys) p x out = refute_other ys (assume p (minus (variable y))) x out.1 ∙ rw out.0 refl
