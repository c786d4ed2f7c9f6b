-- Transfers under inputs, one after another.
use Rattle.std.proofs.Common.{Result, Ok, Err, ◌≡◌, ℕ, suc, ◌+◌, ◌<◌, List, [], ◌∷◌, ◌++◌, length, take, get_or, refl, sym, ap, ◌∙◌, subst, arith, add-zero}
use Rattle.std.proofs.lemmas.List.{take_more, length-take}
use Rattle.std.specs.Prelude.{IfOk}
use Rattle.wb_word.specs.declared.memory.OutOfMemory.{OutOfMemory}
use Rattle.wb_term.specs.Inputs.{Assignment}
use Rattle.wb_port.specs.declared.accesses.Access.{Access}
use Rattle.wb_port.specs.declared.accesses.Access.TheVariants as access
use Rattle.wb_port.specs.declared.accesses.Kind.{Kind}
use Rattle.wb_port.specs.Talk.{Talk, dialogue}
use Rattle.wb_point.specs.Dialogues.{access_under, accesses_under, transfer_bytes}

-- one transfer more
pub under-push : (inputs : Assignment) (n : ℕ) (ks : List Kind) (k : Kind)
    → accesses_under inputs n (ks ++ k ∷ []) ≡ accesses_under inputs n ks ++ access_under inputs (n + length ks) k ∷ []
under-push inputs n [] k = ap (λ (m : ℕ). access_under inputs m k ∷ []) (sym (add-zero n))
under-push inputs n (x ∷ ks) k =
    ap (λ (rest : List Access). access_under inputs n x ∷ rest)
    (under-push inputs (n + 1) ks k
    ∙ ap (λ (m : ℕ). accesses_under inputs (n + 1) ks ++ access_under inputs m k ∷ []) (next n (length ks))) where
      next : (n m : ℕ) → n + 1 + m ≡ n + suc m
      next n m = omega arith

pub under-after : (ks : List Kind) (k : Kind) (inputs : Assignment)
    → accesses_under inputs 0 (ks ++ k ∷ []) ≡ accesses_under inputs 0 ks ++ access_under inputs (length ks) k ∷ []
under-after ks k inputs =
    under-push inputs 0 ks k ∙ ap (λ (m : ℕ). accesses_under inputs 0 ks ++ access_under inputs m k ∷ []) (from_zero (length ks)) where
      from_zero : (m : ℕ) → 0 + m ≡ m
      from_zero m = omega arith

pub under_more : (inputs : Assignment) (ks : List Kind) (i : ℕ) (d : Kind) → i < length ks
    → accesses_under inputs 0 (take (i + 1) ks) ≡ accesses_under inputs 0 (take i ks) ++ access_under inputs i (get_or ks i d) ∷ []
under_more inputs ks i d less =
    ap (accesses_under inputs 0) (take_more ks i d less)
    ∙ under-push inputs 0 (take i ks) (get_or ks i d)
    ∙ ap (λ (m : ℕ). accesses_under inputs 0 (take i ks) ++ access_under inputs m (get_or ks i d) ∷ []) (length-front ks i less) where
      length-front : (xs : List Kind) (i : ℕ) → i < length xs → 0 + length (take i xs) ≡ i
      length-front xs i less = omega (arith, length-take i xs)

pub bytes-append : (xs ys : List Access) → transfer_bytes (xs ++ ys) ≡ transfer_bytes xs ++ transfer_bytes ys
bytes-append [] ys = refl
bytes-append (access.Status ∷ xs) ys = bytes-append xs ys
bytes-append (access.Read ∷ xs) ys = ap (λ (rest : List ℕ). 0 ∷ rest) (bytes-append xs ys)
bytes-append (access.Write byte ∷ xs) ys = ap (λ (rest : List ℕ). byte ∷ rest) (bytes-append xs ys)

pub bytes_more : (xs : List Access) (i : ℕ) (d : Access) → i < length xs → transfer_bytes (take (i + 1) xs) ≡ transfer_bytes (take i xs) ++ transfer_bytes (get_or xs i d ∷ [])
bytes_more xs i d less = ap transfer_bytes (take_more xs i d less) ∙ bytes-append (take i xs) (get_or xs i d ∷ [])

-- a dialogue that goes on by the next transfer
pub dialogue_more : (inputs : Assignment) (start : List ℕ) (ks js : List Kind) (i : ℕ) (d : Kind) (old new : Talk) (a : Access)
    → js ≡ ks → i < length js → old ≡ dialogue start (accesses_under inputs 0 (take i ks)) → a ≡ access_under inputs i (get_or js i d)
    → new ≡ dialogue old.start (old.accesses ++ a ∷ []) → new ≡ dialogue start (accesses_under inputs 0 (take (i + 1) ks))
dialogue_more inputs start ks js i d old new a same less was is goes =
    goes
    ∙ ap (λ (t : Talk). dialogue t.start (t.accesses ++ a ∷ [])) was
    ∙ ap (λ (x : Access). dialogue start (accesses_under inputs 0 (take i ks) ++ x ∷ [])) (is ∙ ap (λ (zs : List Kind). access_under inputs i (get_or zs i d)) same)
    ∙ ap (dialogue start) (sym (under_more inputs ks i d (subst (λ (zs : List Kind). i < length zs) same less)))

pub bytes_noted : (xs ys : List Access) (i : ℕ) (d : Access) (old new : List ℕ) → ys ≡ xs → i < length ys → old ≡ transfer_bytes (take i xs)
    → new ≡ old ++ transfer_bytes (get_or ys i d ∷ []) → new ≡ transfer_bytes (take (i + 1) xs)
bytes_noted xs ys i d old new same less was is =
    is ∙ ap (λ (zs : List ℕ). zs ++ transfer_bytes (get_or ys i d ∷ [])) was
    ∙ ap (λ (zs : List Access). transfer_bytes (take i xs) ++ transfer_bytes (get_or zs i d ∷ [])) same
    ∙ sym (bytes_more xs i d (subst (λ (zs : List Access). i < length zs) same less))

pub inputs_made : (r : Result Assignment OutOfMemory) (bs cs : List ℕ) (d : Assignment) → bs ≡ d.bytes → cs ≡ d.cells
    → IfOk r (λ i. i.bytes ≡ bs) → IfOk r (λ i. i.cells ≡ cs) → IfOk r (λ i. i ≡ d)
inputs_made (Ok x) bs cs d e f p q =
    ap (λ (zs : List ℕ). record { bytes = zs; cells = x.cells }) (p ∙ e) ∙ ap (λ (zs : List ℕ). record { bytes = d.bytes; cells = zs }) (q ∙ f)
inputs_made (Err x) bs cs d e f p q = p
