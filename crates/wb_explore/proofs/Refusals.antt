-- Why an entry isn't put, and what is noted all the same.
use Rattle.std.proofs.Common.{◌≡◌, ◌≢◌, ℕ, ◌+◌, ◌<◌, true, false, Option, Some, None, Result, Ok, Err, IfErr, IsErrAnd, OnOk, List, [], inl, inr, length, refl, sym, ap, subst, ◌∙◌, arith, append-nil}
use Rattle.std.specs.Prelude.{All, AllPairs, is_some, slice_index_or}
use Rattle.std.proofs.lemmas.Bool.{both_ways}
use Rattle.std.specs.List.{remove}
use Rattle.std.proofs.lemmas.List.{length_push, get_or_default}
use Rattle.std.proofs.lemmas.List.Quantifiers.{all_pairs_push}
use Rattle.wb_rom.specs.declared.images.Image.{Image}
use Rattle.wb_term.specs.Inputs.{Assignment}
use Rattle.wb_term.specs.Terms.{Terms}
use Rattle.wb_symstep.specs.Laws.{GrowthKeepsStates}
use Rattle.wb_point.specs.Laws.{DialoguesAreOfTheirKinds}
use Rattle.wb_point.specs.Dialogues.{dialogue_under}
use Rattle.wb_port.specs.declared.points.Point.{Point}
use Rattle.wb_explore.specs.declared.plan.Plan.{Plan}
use Rattle.wb_explore.specs.declared.entries.Entry.{Entry}
use Rattle.wb_explore.specs.declared.reached.ReachedPoint.{ReachedPoint}
use Rattle.wb_explore.specs.declared.faults.ExploreFault.{ExploreFault}
use Rattle.wb_explore.specs.declared.faults.ExploreFault.TheVariants as fault
use Rattle.wb_explore.specs.HeldLaws.{HeldLaws}
use Rattle.wb_explore.specs.Entries.{IsSound, Taken}
use Rattle.wb_explore.specs.Plans.{runs_of}
use Rattle.wb_explore.specs.Purses.{Holding, IsPurse}
use Rattle.wb_explore.specs.Layers.{AddsPassed}
use Rattle.wb_explore.specs.Pending.{entry_key, entry_view, IsEntry, IsFound, ArePending, IsUnmet, IsUnput, IsNotedOrNot, newly}
use Rattle.wb_explore.proofs.Putting.{noted_passes}
use Rattle.wb_explore.proofs.Lists.{apart_only, taken_itself, removed}

pub if_err : {A B : Type 0} {P Q : B → Type 0} (r : Result A B) → ((e : B) → P e → Q e) → IfErr r P → IfErr r Q
if_err (Ok x) f h = h
if_err (Err e) f h = f e h

-- a fault that is handed on
pub handed_on : {A B : Type 0} (P : B → Type 0) (r : Result A B) (e : B) → IsErrAnd r (λ f. f ≡ e) → P e → IfErr r P
handed_on P (Ok x) e h p = absurd h
handed_on P (Err f) e h p = subst P (sym h) p

pub on_ok : {A B : Type 0} {P Q : Type 0} (r : Result A B) → (P → Q) → OnOk r P → OnOk r Q
on_ok (Ok x) f h = f h
on_ok (Err e) f h = h

pub on_ok_two : {A B : Type 0} {P Q R : Type 0} (r : Result A B) → (P → Q → R) → OnOk r P → OnOk r Q → OnOk r R
on_ok_two (Ok x) f h k = f h k
on_ok_two (Err e) f h k = h

pub unmet_memory : (p : Plan) (before : Holding) (key : Point) (o : Option Assignment) → IsUnmet p before key o fault.OutOfMemory
unmet_memory p before key (Some w) = tt
unmet_memory p before key None = refl

pub newly_none : (o : Option Assignment) → newly o None ≡ o
newly_none (Some w) = refl
newly_none None = refl

-- a point that would be newly found isn't in the purse

pub fresh_alone : (reached : List ReachedPoint) (es : List Entry) (e : Entry) → All (λ (r : ReachedPoint). r.point ≡ e.key → IsFound es e.key) reached → All (λ (f : Entry). f.key ≢ e.key) es → All (λ (r : ReachedPoint). r.point ≢ e.key) reached
fresh_alone reached es e fresh alone k d less q =
    let f = fresh k d less q in
    alone f.listed.0 f.entry f.listed.1 (ap (λ (n : Entry). n.key) f.listed.2 ∙ f.same)

pub fresh_met : (g : Terms) (image : Image) (p : Plan) (reached : List ReachedPoint) (es rest : List Entry) (e other : Entry) → ArePending g image p reached es → Taken es rest other → other.key ≡ e.key
    → All (λ (r : ReachedPoint). r.point ≡ e.key → IsFound es e.key) reached → is_some (newly e.witness other.witness) ≡ true → All (λ (r : ReachedPoint). r.point ≢ e.key) reached
fresh_met g image p reached es rest e other a taken same fresh new k d less q =
    let f = fresh k d less q in
    let one : f.entry ≡ other = apart_only entry_key es f.entry other a.apart f.listed (taken_itself es rest other taken) (f.same ∙ sym same) in
    by_cases e.witness other.witness new (ap (λ (n : Entry). is_some n.witness) (sym one) ∙ f.found)
  where
    by_cases : (o n : Option Assignment) → is_some (newly o n) ≡ true → is_some n ≡ true → ⊥
    by_cases (Some w) (Some u) r s = both_ways false refl r
    by_cases (Some w) None r s = both_ways false refl s
    by_cases None n r s = both_ways false refl r

-- an entry that was removed from its place

pub taken_from : (es rest : List Entry) (i : ℕ) (x : Entry) → i < length es → x ≡ slice_index_or es i x → rest ≡ remove es i → Taken es rest x
taken_from es rest i x less value q = subst (λ (l : List Entry). Taken es l x) (sym q) (removed es i x less value)

pub found_key : (es : List Entry) (i : ℕ) (x e : Entry) → i < length es → x ≡ slice_index_or es i x → (slice_index_or es i e).key ≡ e.key → x.key ≡ e.key
found_key es i x e less value q = ap (λ (n : Entry). n.key) (value ∙ get_or_default es i x e less) ∙ q

module _ (laws : HeldLaws) (kinds_law : DialoguesAreOfTheirKinds) (keeps : GrowthKeepsStates) (image : Image) (p : Plan) (g : Terms) (e : Entry) (x : IsEntry g image p e) (s : IsSound (entry_view g) (runs_of image p) e) where
  pub noted_or_not : (o : Option Assignment) (before after : Holding) → ((w : Assignment) → o ≡ Some w → e.witness ≡ Some w) → IsNotedOrNot p e.key o before after → AddsPassed image p before.reached after.reached
  noted_or_not o before after only (inl q) = record { added = []; after = ap (λ (h : Holding). h.reached) q ∙ sym (append-nil before.reached); passed = λ r c. absurd (let less = c.1 in omega arith) }
  noted_or_not o before after only (inr q) =
      subst (AddsPassed image p before.reached) (sym (ap (λ (h : Holding). h.reached) q))
      (noted_passes laws kinds_law keeps image p g e o before.reached x s only)

  pub same_budget : (o : Option Assignment) (before after : Holding) → IsNotedOrNot p e.key o before after → after.budget ≡ before.budget
  same_budget o before after (inl q) = ap (λ (h : Holding). h.budget) q
  same_budget o before after (inr q) = ap (λ (h : Holding). h.budget) q

  pub unput : (o : Option Assignment) (before : Holding) → IsPurse before → ((w : Assignment) → o ≡ Some w → e.witness ≡ Some w)
      → (is_some o ≡ true → All (λ (r : ReachedPoint). r.point ≢ e.key) before.reached)
      → (f : ExploreFault) → IsUnmet p before e.key o f → IsUnput image p before f
  unput None before purse only fresh f u = subst (IsUnput image p before) (sym u) tt
  unput (Some w) before purse only fresh (fault.Points list) (q, full) = record {
    adds = subst (AddsPassed image p before.reached) (sym q) (noted_passes laws kinds_law keeps image p g e (Some w) before.reached x s only);
    different =
        subst (λ (l : List ReachedPoint). AllPairs (λ (a b : ReachedPoint). a.point ≢ b.point) l) (sym q)
        (all_pairs_push (λ (a b : ReachedPoint). a.point ≢ b.point) before.reached _ purse.different (fresh refl));
    count = let l = ap length q in let n = length_push before.reached (record { point = e.key; dialogue = dialogue_under p.kinds w p.power }) in l ∙ (n ∙ ap (λ (m : ℕ). m + 1) full);
  }
  unput (Some w) before purse only fresh fault.OutOfMemory u = tt
  unput (Some w) before purse only fresh (fault.Breach d at) u = absurd u
  unput (Some w) before purse only fresh (fault.Conflicts a b) u = absurd u
  unput (Some w) before purse only fresh (fault.BadAnswer a b) u = absurd u
