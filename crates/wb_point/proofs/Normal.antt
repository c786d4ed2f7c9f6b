-- The inputs of a dialogue, and the dialogue of inputs.
use Rattle.std.proofs.Common.{◌≡◌, ℕ, zero, suc, ◌+◌, ◌-◌, ◌<◌, ◌≤◌, ◌⊎◌, inl, inr, Option, Some, None, List, [], ◌∷◌, ◌++◌, length, take, slice_get, slice_index, replicate, refl, sym, ap, ◌∙◌, subst, arith, add-zero, lit<}
use Rattle.std.proofs.lemmas.List.{length-take, get_or-take, get_or_past, get_or_append_left, get_or-append_right, get_or-replicate, length-replicate, length-append}
use Rattle.std.proofs.lemmas.List.Elements.{recursion_from_All, All-from_recursion}
use Rattle.std.proofs.lemmas.Bool.{cases_lt}
use Rattle.std.specs.List.{All, AllByRecursion}
use Rattle.wb_term.specs.Inputs.{Assignment, IsAssignment}
use Rattle.wb_machine.specs.State.{IsStart}
use Rattle.wb_port.specs.declared.accesses.Access.{Access}
use Rattle.wb_port.specs.declared.accesses.Access.TheVariants as access
use Rattle.wb_port.specs.declared.accesses.Kind.{Kind}
use Rattle.wb_port.specs.declared.accesses.Kind.TheVariants as kind
use Rattle.wb_port.specs.declared.accesses.Power.{Power}
use Rattle.wb_port.specs.declared.accesses.Power.TheVariants as power
use Rattle.wb_port.specs.Dialogue.{AllowsStart}
use Rattle.wb_port.specs.Talk.{Talk, dialogue, kinds, transfers, IsTransfer, IsByteAccess}
use Rattle.wb_point.specs.Dialogues.{accesses_under, start_under, dialogue_under, transfer_bytes, inputs_of, normalised}
use Rattle.wb_point.specs.Laws.{IsOfKinds, IsWriteAt, IsNormalised}

each_of_list : (P : ℕ → Type 0) (xs : List ℕ) → ((k : ℕ) → k < length xs → P (slice_index xs k)) → AllByRecursion P xs
each_of_list P [] each = tt
each_of_list P (x ∷ xs) each = (each 0 (omega arith), each_of_list P xs (λ k h. each (suc k) (omega (arith, h))))

kinds_are : (inputs : Assignment) (n : ℕ) (ks : List Kind) → kinds (accesses_under inputs n ks) ≡ ks
kinds_are inputs n [] = refl
kinds_are inputs n (kind.Read ∷ ks) = ap (λ (xs : List Kind). kind.Read ∷ xs) (kinds_are inputs (n + 1) ks)
kinds_are inputs n (kind.Write ∷ ks) = ap (λ (xs : List Kind). kind.Write ∷ xs) (kinds_are inputs (n + 1) ks)

are_transfers : (inputs : Assignment) (n : ℕ) (ks : List Kind) → AllByRecursion IsTransfer (accesses_under inputs n ks)
are_transfers inputs n [] = tt
are_transfers inputs n (kind.Read ∷ ks) = (tt, are_transfers inputs (n + 1) ks)
are_transfers inputs n (kind.Write ∷ ks) = (tt, are_transfers inputs (n + 1) ks)

are_bytes : (inputs : Assignment) → IsAssignment inputs → (n : ℕ) (ks : List Kind) → AllByRecursion IsByteAccess (accesses_under inputs n ks)
are_bytes inputs is n [] = tt
are_bytes inputs is n (kind.Read ∷ ks) = (tt, are_bytes inputs is (n + 1) ks)
are_bytes inputs is n (kind.Write ∷ ks) = (is.bytes n, are_bytes inputs is (n + 1) ks)

zero_at : (k : ℕ) → slice_index (replicate 256 0) k ≡ 0
zero_at k = by (cases_lt k 256) where
  by : (k < 256) ⊎ (256 ≤ k) → slice_index (replicate 256 0) k ≡ 0
  by (inl h) = get_or-replicate {A = ℕ} 256 k 0 0 h
  by (inr h) = get_or_past (replicate 256 0) k 0 (subst (λ (n : ℕ). n ≤ k) (sym (length-replicate {A = ℕ} 256 0)) h)

start_allowed : (inputs : Assignment) (p : Power) → AllowsStart p (start_under inputs p)
start_allowed inputs power.Zero = refl
start_allowed inputs power.Any = tt

is_start : (inputs : Assignment) → IsAssignment inputs → (p : Power) → IsStart (start_under inputs p)
is_start inputs is power.Zero = record {
  len = length-replicate {A = ℕ} 256 0;
  words = All-from_recursion (λ (word : ℕ). word < 65536) (replicate 256 0)
      (each_of_list (λ (word : ℕ). word < 65536) (replicate 256 0) (λ k h. subst (λ (word : ℕ). word < 65536) (sym (zero_at k)) (lit< tt)));
}
is_start inputs is power.Any = record {
  len = is.cells_len;
  words = All-from_recursion (λ (word : ℕ). word < 65536) inputs.cells (each_of_list (λ (word : ℕ). word < 65536) inputs.cells (λ k h. is.cells k));
}

pub of_kinds : (ks : List Kind) (inputs : Assignment) (p : Power) → IsOfKinds ks inputs p
of_kinds ks inputs p = record {
  kinds = kinds_are inputs 0 ks;
  transfers = All-from_recursion IsTransfer (accesses_under inputs 0 ks) (are_transfers inputs 0 ks);
  start = start_allowed inputs p;
  talk = λ is. record {
    start_in = is_start inputs is p;
    bytes_in = All-from_recursion IsByteAccess (accesses_under inputs 0 ks) (are_bytes inputs is 0 ks);
  };
}

-- one number a transfer
bytes_count : (l : List Access) → length (transfer_bytes l) ≡ transfers l
bytes_count [] = refl
bytes_count (access.Status ∷ l) = bytes_count l
bytes_count (access.Read ∷ l) = ap suc (bytes_count l)
bytes_count (access.Write byte ∷ l) = ap suc (bytes_count l)

-- sixteen numbers: those of a short list, then zeros
padded : List ℕ → List ℕ
padded xs = take 16 (xs ++ replicate 16 0)

padded_at : (xs : List ℕ) → length xs ≤ 16 → (k : ℕ) → slice_index (take 16 (xs ++ replicate 16 0)) k ≡ slice_index xs k
padded_at xs short k = by (cases_lt k 16) (cases_lt k (length xs)) where
  zeros : (j : ℕ) → slice_index (replicate 16 0) j ≡ 0
  zeros j = from (cases_lt j 16) where
    from : (j < 16) ⊎ (16 ≤ j) → slice_index (replicate 16 0) j ≡ 0
    from (inl h) = get_or-replicate {A = ℕ} 16 j 0 0 h
    from (inr h) = get_or_past (replicate 16 0) j 0 (subst (λ (n : ℕ). n ≤ j) (sym (length-replicate {A = ℕ} 16 0)) h)

  by : (k < 16) ⊎ (16 ≤ k) → (k < length xs) ⊎ (length xs ≤ k) → slice_index (take 16 (xs ++ replicate 16 0)) k ≡ slice_index xs k
  by (inl h) (inl l) = get_or-take 16 (xs ++ replicate 16 0) k 0 h ∙ get_or_append_left xs (replicate 16 0) 0 k l
  by (inl h) (inr l) =
      get_or-take 16 (xs ++ replicate 16 0) k 0 h ∙ get_or-append_right xs (replicate 16 0) (length xs) k 0 refl l
      ∙ zeros (k - length xs) ∙ sym (get_or_past xs k 0 l)
  by (inr h) l =
      get_or_past (take 16 (xs ++ replicate 16 0)) k 0 (omega (arith, h, length-take 16 (xs ++ replicate 16 0)))
      ∙ sym (get_or_past xs k 0 (omega (arith, h, short)))

-- transfers under inputs that have their bytes
come_back : (inputs : Assignment) (n : ℕ) (l : List Access) → AllByRecursion IsTransfer l
    → ((k : ℕ) → k < length (transfer_bytes l) → slice_index inputs.bytes (n + k) ≡ slice_index (transfer_bytes l) k)
    → accesses_under inputs n (kinds l) ≡ l
come_back inputs n [] all same = refl
come_back inputs n (access.Status ∷ l) all same = absurd all.0
come_back inputs n (access.Read ∷ l) all same =
    ap (λ (rest : List Access). access.Read ∷ rest)
    (come_back inputs (n + 1) l all.1 (λ k h. ap (slice_index inputs.bytes) (next n k) ∙ same (suc k) (omega (arith, h)))) where
      next : (n m : ℕ) → n + 1 + m ≡ n + suc m
      next n m = omega arith
come_back inputs n (access.Write byte ∷ l) all same =
    ap (λ (b : ℕ). access.Write b ∷ accesses_under inputs (n + 1) (kinds l)) (ap (slice_index inputs.bytes) (sym (add-zero n)) ∙ same 0 (omega arith))
    ∙ ap (λ (rest : List Access). access.Write byte ∷ rest)
    (come_back inputs (n + 1) l all.1 (λ k h. ap (slice_index inputs.bytes) (next n k) ∙ same (suc k) (omega (arith, h)))) where
      next : (n m : ℕ) → n + 1 + m ≡ n + suc m
      next n m = omega arith

pub talk_comes_back : (p : Power) (d : Talk) → All IsTransfer d.accesses → transfers d.accesses ≤ 16 → AllowsStart p d.start
    → dialogue_under (kinds d.accesses) (inputs_of d) p ≡ d
talk_comes_back p d all few allowed =
    ap (dialogue (start_under (inputs_of d) p))
    (come_back (inputs_of d) 0 d.accesses (recursion_from_All IsTransfer d.accesses all)
    (λ k h. ap (slice_index (inputs_of d).bytes) (from_zero k) ∙ padded_at (transfer_bytes d.accesses) short k))
    ∙ ap (λ (start : List ℕ). dialogue start d.accesses) (start_is p allowed) where
      from_zero : (k : ℕ) → 0 + k ≡ k
      from_zero k = omega arith

      short : length (transfer_bytes d.accesses) ≤ 16
      short = subst (λ (n : ℕ). n ≤ 16) (sym (bytes_count d.accesses)) few

      start_is : (q : Power) → AllowsStart q d.start → start_under (inputs_of d) q ≡ d.start
      start_is power.Zero e = sym e
      start_is power.Any e = refl

-- the byte that a dialogue under inputs writes at a place
byte_at : Assignment → ℕ → Option Kind → ℕ
byte_at inputs place (Some kind.Write) = slice_index inputs.bytes place
byte_at inputs place _ = 0

byte_below : (inputs : Assignment) → IsAssignment inputs → (place : ℕ) (k : Option Kind) → byte_at inputs place k < 256
unfolding byte_at
byte_below inputs is place (Some kind.Write) = is.bytes place
byte_below inputs is place (Some kind.Read) = lit< tt
byte_below inputs is place None = lit< tt

byte_told : (inputs : Assignment) (n : ℕ) (ks : List Kind) (k : ℕ) → slice_index (transfer_bytes (accesses_under inputs n ks)) k ≡ byte_at inputs (n + k) (slice_get ks k)
unfolding byte_at
byte_told inputs n [] k = refl
byte_told inputs n (kind.Read ∷ ks) zero = refl
byte_told inputs n (kind.Write ∷ ks) zero = ap (slice_index inputs.bytes) (sym (add-zero n))
byte_told inputs n (kind.Read ∷ ks) (suc k) = byte_told inputs (n + 1) ks k ∙ ap (λ (m : ℕ). byte_at inputs m (slice_get ks k)) (next n k) where
  next : (n m : ℕ) → n + 1 + m ≡ n + suc m
  next n m = omega arith
byte_told inputs n (kind.Write ∷ ks) (suc k) = byte_told inputs (n + 1) ks k ∙ ap (λ (m : ℕ). byte_at inputs m (slice_get ks k)) (next n k) where
  next : (n m : ℕ) → n + 1 + m ≡ n + suc m
  next n m = omega arith

module _ (ks : List Kind) (p : Power) (inputs : Assignment) (few : length ks ≤ 16) where
  bytes : List ℕ
  bytes = transfer_bytes (accesses_under inputs 0 ks)

  count_is : length (transfer_bytes (accesses_under inputs 0 ks)) ≡ length ks
  count_is = bytes_count (accesses_under inputs 0 ks) ∙ ap length (kinds_are inputs 0 ks)

  normal_at : (place : ℕ) → slice_index (normalised ks p inputs).bytes place ≡ byte_at inputs place (slice_get ks place)
  normal_at place =
      padded_at (transfer_bytes (accesses_under inputs 0 ks)) (subst (λ (n : ℕ). n ≤ 16) (sym count_is) few) place
      ∙ byte_told inputs 0 ks place ∙ ap (λ (n : ℕ). byte_at inputs n (slice_get ks place)) from_zero where
        from_zero : 0 + place ≡ place
        from_zero = omega arith

  same : dialogue_under ks (normalised ks p inputs) p ≡ dialogue_under ks inputs p
  same =
      ap (λ (js : List Kind). dialogue_under js (normalised ks p inputs) p) (sym (kinds_are inputs 0 ks))
      ∙ talk_comes_back p (dialogue_under ks inputs p) (of_kinds ks inputs p).transfers
      (subst (λ (js : List Kind). length js ≤ 16) (sym (kinds_are inputs 0 ks)) few) (start_allowed inputs p)

  written : (place : ℕ) → IsWriteAt ks place → slice_index (normalised ks p inputs).bytes place ≡ slice_index inputs.bytes place
  unfolding byte_at
  written place is = normal_at place ∙ ap (byte_at inputs place) is

  others : (place : ℕ) → (IsWriteAt ks place → ⊥) → slice_index (normalised ks p inputs).bytes place ≡ 0
  unfolding byte_at
  others place none = normal_at place ∙ by (slice_get ks place) none where
    by : (k : Option Kind) → (k ≡ Some kind.Write → ⊥) → byte_at inputs place k ≡ 0
    by (Some kind.Write) never = absurd (never refl)
    by (Some kind.Read) never = refl
    by None never = refl

  assignment : IsAssignment inputs → IsAssignment (normalised ks p inputs)
  assignment is = record {
    bytes_len = omega (arith, length-take 16 (transfer_bytes (accesses_under inputs 0 ks) ++ replicate 16 0), length-append (transfer_bytes (accesses_under inputs 0 ks)) (replicate 16 0), length-replicate {A = ℕ} 16 0);
    cells_len = (is_start inputs is p).len;
    bytes = λ place. subst (λ (n : ℕ). n < 256) (sym (normal_at place)) (byte_below inputs is place (slice_get ks place));
    cells = cells_below p;
  } where
    cells_below : (q : Power) (place : ℕ) → slice_index (start_under inputs q) place < 65536
    cells_below power.Zero place = subst (λ (n : ℕ). n < 65536) (sym (zero_at place)) (lit< tt)
    cells_below power.Any place = is.cells place

  pub normal : IsNormalised ks p inputs
  normal = record {
    same = same;
    written = written;
    others = others;
    cells = λ e. ap (start_under inputs) e;
    zeros = λ e. ap (start_under inputs) e;
    assignment = assignment;
  }
