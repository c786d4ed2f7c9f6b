-- A dialogue is that of its own inputs, so a layer tells of it.
use Rattle.std.proofs.Common.{◌≡◌, ◌≢◌, ℕ, zero, suc, ◌+◌, ◌<◌, ◌≤◌, ◌⊎◌, inl, inr, true, List, [], ◌∷◌, ◌++◌, length, take, slice_index, slice_index_or, replicate, refl, sym, ap, ◌∙◌, subst, arith, lit<}
use Rattle.std.specs.Prelude.{Contains, All, AllPairs}
use Rattle.std.specs.List.{AllByRecursion}
use Rattle.std.proofs.lemmas.List.{length-take, get_or_default, get_or_past, length-replicate, length-append}
use Rattle.std.proofs.lemmas.List.Elements.{recursion_from_All, All-take, All-append, All-replicate, All-get_or, All-from_recursion}
use Rattle.std.proofs.lemmas.Bool.{cases_lt}
use Rattle.wb_rom.specs.declared.images.Image.{Image}
use Rattle.wb_term.specs.Inputs.{Assignment, IsAssignment}
use Rattle.wb_term.specs.Terms.{Terms}
use Rattle.wb_term.specs.Values.{bit_value}
use Rattle.wb_port.specs.declared.accesses.Access.{Access}
use Rattle.wb_port.specs.declared.accesses.Access.TheVariants as access
use Rattle.wb_port.specs.declared.accesses.Kind.{Kind}
use Rattle.wb_port.specs.declared.chips.Chip.{Chip}
use Rattle.wb_port.specs.Schedule.{powered}
use Rattle.wb_port.specs.Talk.{Talk, IsTalk, IsByteAccess, kinds}
use Rattle.wb_law.specs.Course.{AsksAfter}
use Rattle.wb_symstep.specs.State.{StandsFor}
use Rattle.wb_point.specs.Shows.{shows}
use Rattle.wb_point.specs.Dialogues.{dialogue_under, inputs_of, transfer_bytes}
use Rattle.wb_point.specs.Laws.{TalksComeBack, StatesShowTheirMachines}
use Rattle.wb_explore.specs.declared.layer.Request.{Request}
use Rattle.wb_explore.specs.HeldLaws.{HeldLaws}
use Rattle.wb_explore.specs.Runs.{Asks}
use Rattle.wb_explore.specs.Plans.{runs_of, IsPlanned}
use Rattle.wb_explore.specs.Layers.{Requests, IsLayer}
use Rattle.wb_explore.specs.Told.{Stands, AsksFor, TellsOf}

abbrev IsByte : ℕ → Type 0
IsByte byte = byte < 256

are_bytes : (l : List Access) → AllByRecursion IsByteAccess l → AllByRecursion IsByte (transfer_bytes l)
are_bytes [] all = tt
are_bytes (access.Status ∷ l) all = are_bytes l all.1
are_bytes (access.Read ∷ l) all = (lit< tt, are_bytes l all.1)
are_bytes (access.Write byte ∷ l) all = (all.0, are_bytes l all.1)

below_all : (P : ℕ → Type 0) (xs : List ℕ) → P 0 → All P xs → (k : ℕ) → P (slice_index xs k)
below_all P xs none all k = by (cases_lt k (length xs)) where
  by : (k < length xs) ⊎ (length xs ≤ k) → P (slice_index xs k)
  by (inl h) = All-get_or P xs k 0 h all
  by (inr h) = subst P (sym (get_or_past xs k 0 h)) none

-- the inputs of a dialogue are inputs
inputs_are : (d : Talk) → IsTalk d → IsAssignment (inputs_of d)
inputs_are d talk = record {
  bytes_len = omega (arith, length-take 16 (transfer_bytes d.accesses ++ replicate 16 0), length-append (transfer_bytes d.accesses) (replicate 16 0), length-replicate {A = ℕ} 16 0);
  cells_len = talk.start_in.len;
  bytes = below_all IsByte (take 16 (transfer_bytes d.accesses ++ replicate 16 0)) (lit< tt) bytes_in;
  cells = below_all (λ (word : ℕ). word < 65536) d.start (lit< tt) talk.start_in.words;
} where
  bytes_in : All IsByte (take 16 (transfer_bytes d.accesses ++ replicate 16 0))
  bytes_in =
      All-take IsByte 16 (transfer_bytes d.accesses ++ replicate 16 0) (
      All-append IsByte (transfer_bytes d.accesses) (replicate 16 0)
      (All-from_recursion IsByte (transfer_bytes d.accesses) (are_bytes d.accesses (recursion_from_All IsByteAccess d.accesses talk.bytes_in)))
      (All-replicate IsByte 16 0 (lit< tt)))

-- two of a list whose values differ pairwise are one where their values are equal
one_of : {A B : Type 0} (f : A → B) (xs : List A) (x y : A) → AllPairs (λ a b. f a ≢ f b) xs → Contains xs x → Contains xs y → f x ≡ f y → x ≡ y
one_of f xs x y apart (i, less, e) (j, below, q) same = by (cases_lt i j) (cases_lt j i) where
  at_j : slice_index_or xs j x ≡ y
  at_j = get_or_default xs j x y below ∙ q

  at_i : slice_index_or xs i y ≡ x
  at_i = get_or_default xs i y x less ∙ e

  by : (i < j) ⊎ (j ≤ i) → (j < i) ⊎ (i ≤ j) → x ≡ y
  by (inl h) other = absurd (apart i j x h below (ap f e ∙ same ∙ sym (ap f at_j)))
  by (inr h) (inl g) = absurd (apart j i y g less (ap f q ∙ sym same ∙ sym (ap f at_i)))
  by (inr h) (inr g) = sym e ∙ ap (λ (k : ℕ). slice_index_or xs k x) (omega (arith, h, g)) ∙ at_j

module _ (laws : HeldLaws) (back : TalksComeBack) (shown : StatesShowTheirMachines) (g : Terms) (image : Image) (l : Requests) (is : IsLayer g image l) (d : Talk) (talk : IsTalk d) (planned : IsPlanned l.plan d) where
  i : Assignment
  i = inputs_of d

  is_i : IsAssignment (inputs_of d)
  is_i = inputs_are d talk

  same : dialogue_under l.plan.kinds (inputs_of d) l.plan.power ≡ d
  same =
      ap (λ (ks : List Kind). dialogue_under ks (inputs_of d) l.plan.power) (sym planned.kinds)
      ∙ back l.plan.power d planned.transfers (subst (λ (ks : List Kind). length ks ≤ 16) (sym planned.kinds) is.few) planned.start

  told : (c : Chip) → Asks (runs_of image l.plan) (inputs_of d) c → AsksFor image l d c
  told c h = subst (λ (t : Talk). AsksAfter image l.plan.pace t.accesses (powered t.start) c) same h

  untold : (c : Chip) → AsksFor image l d c → Asks (runs_of image l.plan) (inputs_of d) c
  untold c h = subst (λ (t : Talk). AsksAfter image l.plan.pace t.accesses (powered t.start) c) (sym same) h

  found : (q : Request) → Stands g l d q → (c : Chip) × Asks (runs_of image l.plan) (inputs_of d) c × StandsFor (inputs_of d) g q.state c.machine
  found q s = is.requests.sound q s.listed (inputs_of d) is_i s.holds

  stands_at : (q : Request) (c : Chip) → Stands g l d q → AsksFor image l d c → StandsFor (inputs_of d) g q.state c.machine
  stands_at q c s h =
      let f = found q s in
      subst (λ (x : Chip). StandsFor (inputs_of d) g q.state x.machine)
      (laws.one_request image l.plan.pace d.accesses (powered d.start) f.0 c (told f.0 f.1) h) f.2

  pub layers_tell : TellsOf g image l d
  layers_tell = record {
    asks = (
      λ h. let s = is.requests.complete (inputs_of d) is_i h.0 (untold h.0 h.1) in (s.entry, record { listed = s.listed; holds = s.is_at.holds }),
      λ h. let f = found h.0 h.1 in (f.0, told f.0 f.1),
    );
    one = λ q r s t.
        let f = found q s in
        one_of (λ (x : Request). shows x.state) l.requests q r is.apart s.listed t.listed
        (shown (inputs_of d) g q.state f.0.machine f.2 ∙ sym (shown (inputs_of d) g r.state f.0.machine (stands_at r f.0 t (told f.0 f.1))));
    stands = stands_at;
  }
