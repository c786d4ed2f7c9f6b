-- Lists of bits of which one is set.
use Rattle.std.proofs.Common.{◌≡◌, ℕ, ◌<◌, ◌+◌, Bool, true, false, List, length, get_or, slice_set, eqb, refl, ◌∙◌, arith}
use Rattle.std.specs.Prelude.{◌||◌, if◌then◌else◌, nat_lt}
use Rattle.std.proofs.lemmas.List.{get_or-set_other}
use Rattle.std.proofs.lemmas.Grind.{get_or-set_at}

pub bit-set : (xs : List Bool) (i j : ℕ) (v : Bool) → i < length xs → get_or (slice_set xs i v) j false ≡ (if eqb j i then v else get_or xs j false)
bit-set xs i j v h = by (eqb j i) refl where
  by : (b : Bool) → eqb j i ≡ b → get_or (slice_set xs i v) j false ≡ (if b then v else get_or xs j false)
  by true e = get_or-set_at xs i j v false (grind arith) h
  by false e = get_or-set_other xs i j v false (grind arith)

-- one bit more of two lists is joined
pub joined-more : (xs one other : List Bool) (k : ℕ) → k < length xs →
    ((j : ℕ) → get_or xs j false ≡ (if nat_lt j k then (get_or one j false || get_or other j false) else get_or one j false)) → (j : ℕ) →
    get_or (slice_set xs k (get_or xs k false || get_or other k false)) j false ≡ (if nat_lt j (k + 1) then (get_or one j false || get_or other j false) else get_or one j false)
joined-more xs one other k h so j = bit-set xs k j (get_or xs k false || get_or other k false) h ∙ by (eqb j k) refl where
  by : (b : Bool) → eqb j k ≡ b → (if b then (get_or xs k false || get_or other k false) else get_or xs j false) ≡ (if nat_lt j (k + 1) then (get_or one j false || get_or other j false) else get_or one j false)
  by true e = let s = so k in grind arith
  by false e = let s = so j in grind arith
