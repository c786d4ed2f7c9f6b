-- What comes of a request state by the next access.
use Rattle.std.proofs.Common.{◌≡◌, ◌≢◌, ℕ, ◌+◌, ◌<◌, ◌≤◌, Bool, true, false, not, ◌&&◌, is_some, Option, Some, None, List, [], ◌∷◌, ◌++◌, ◌⊎◌, inl, inr, length, refl, sym, ap, subst, ◌∙◌, arith, if◌then◌else◌}
use Rattle.std.specs.Prelude.{Contains}
use Rattle.std.proofs.lemmas.Bool.{both_ways}
use Rattle.wb_word.specs.declared.sides.Side.{Side}
use Rattle.wb_rom.specs.declared.images.Image.{Image}
use Rattle.wb_term.specs.declared.nodes.BitId.{BitId}
use Rattle.wb_term.specs.declared.nodes.Node.TheVariants.{Word}
use Rattle.wb_term.specs.declared.nodes.WordNode.TheVariants.{Byte}
use Rattle.wb_term.specs.Inputs.{Assignment, IsAssignment}
use Rattle.wb_term.specs.Terms.{Terms, HasBit}
use Rattle.wb_term.specs.Values.{bit_value}
use Rattle.wb_term.specs.Under.{HasOnly}
use Rattle.wb_term.specs.Growth.{Grown}
use Rattle.wb_machine.specs.State.{State}
use Rattle.wb_port.specs.declared.accesses.Access.{Access}
use Rattle.wb_port.specs.declared.accesses.Access.TheVariants as access
use Rattle.wb_port.specs.declared.accesses.Event.TheVariants as event
use Rattle.wb_port.specs.declared.accesses.Kind.{Kind}
use Rattle.wb_port.specs.declared.accesses.Kind.TheVariants as kind
use Rattle.wb_port.specs.declared.chips.Chip.{Chip}
use Rattle.wb_port.specs.declared.points.Point.{Point}
use Rattle.wb_port.specs.declared.points.Shown.{Shown}
use Rattle.wb_port.specs.Port.{accessed, after_read, after_write}
use Rattle.wb_port.specs.Schedule.{powered, applied}
use Rattle.wb_port.specs.Points.{point_at}
use Rattle.wb_port.specs.NextPoint.{showing, shown_of, point_given}
use Rattle.wb_law.specs.Course.{Given}
use Rattle.wb_law.specs.Requests.{IsFresh}
use Rattle.wb_symstep.specs.declared.state.SymState.{SymState}
use Rattle.wb_symstep.specs.declared.stepped.Stepped.{Stepped}
use Rattle.wb_symstep.specs.declared.stepped.Stepped.TheVariants.{One, Fork}
use Rattle.wb_symstep.specs.Stepped.{chosen}
use Rattle.wb_symstep.specs.State.{StandsFor, IsSymState, StateHasOnly}
use Rattle.wb_symstep.specs.Laws.{GrowthKeepsStates}
use Rattle.wb_symport.specs.Transfer.{StandsAfter}
use Rattle.wb_point.specs.Shows.{shows}
use Rattle.wb_point.specs.Dialogues.{access_under, accesses_under, start_under}
use Rattle.wb_point.specs.Laws.{DialoguesGrowAtTheEnd, NormalisedInputsKeepTheDialogue}
use Rattle.wb_explore.specs.declared.plan.Plan.{Plan}
use Rattle.wb_explore.specs.declared.layer.Request.{Request}
use Rattle.wb_explore.specs.declared.entries.Entry.{Entry}
use Rattle.wb_explore.specs.declared.reached.ReachedPoint.{ReachedPoint}
use Rattle.wb_explore.specs.declared.transfers.Way.{Way}
use Rattle.wb_explore.specs.HeldLaws.{HeldLaws}
use Rattle.wb_explore.specs.Runs.{Runs, Asks, Begins, Comes, point_in}
use Rattle.wb_explore.specs.Entries.{IsAt, IsSound, IsAtSome}
use Rattle.wb_explore.specs.Plans.{runs_of, is_chosen}
use Rattle.wb_explore.specs.Purses.{points_of}
use Rattle.wb_explore.specs.Layers.{IsRequest, request_point}
use Rattle.wb_explore.specs.Explored.{longer_plan}
use Rattle.wb_explore.specs.Pending.{entry_view, IsEntry, IsWitness}
use Rattle.wb_explore.specs.Transfers.{IsAsked, next_access, GivesTo, IsGiven, ComesOfGiving, IsWay, AreAllWays, IsInOrder, FollowsGiving, IsFirstFound, AreGiven, IsPlaceNoted, IsServed}
use Rattle.wb_explore.proofs.Lists.{listed_head, listed_tail, listed_cases, listed_none, point_listed}
use Rattle.wb_explore.proofs.Chosen.{chosen_stays, more_only, more_state, last_write, normal_longer}

-- an access moves no other part of the machine than DR and SR

access_pc : (x : Access) (m : State) → (accessed x m).regs.pc ≡ m.regs.pc
unfolding after_read after_write
access_pc access.Status m = refl
access_pc access.Read m = refl
access_pc (access.Write b) m = refl

access_sp : (x : Access) (m : State) → (accessed x m).regs.sp ≡ m.regs.sp
unfolding after_read after_write
access_sp access.Status m = refl
access_sp access.Read m = refl
access_sp (access.Write b) m = refl

access_stack : (x : Access) (m : State) → (accessed x m).stack ≡ m.stack
unfolding after_read after_write
access_stack access.Status m = refl
access_stack access.Read m = refl
access_stack (access.Write b) m = refl

-- the point with these parts
built : Side → List Kind → ℕ → Bool → Shown → Point
built side kinds count asked s = record {
  side = side;
  kinds = kinds;
  count = count;
  pc = s.pc;
  sp = s.sp;
  stack = s.stack;
  asked = asked;
  rqm = s.rqm;
  drs = s.drs;
}

-- the point of a chip at its first request is that of the state that stands for it
asked_point : (p : Plan) (c : Chip) (s : SymState) → IsFresh c → shows s ≡ shown_of c.machine → point_at p.side p.kinds c ≡ request_point p s
unfolding built
asked_point p c s fresh e =
    ap (λ (n : ℕ). built p.side p.kinds n c.monitor.asked (shown_of c.machine)) fresh.count
    ∙ (ap (λ (b : Bool). built p.side p.kinds 0 b (shown_of c.machine)) fresh.asked
    ∙ ap (λ (v : Shown). built p.side p.kinds 0 true v) (sym e))

both_true : (b c : Bool) → (b && c) ≡ true → (b ≡ true) × (c ≡ true)
both_true true c e = (refl, e)
both_true false c e = absurd (both_ways false refl e)

from_both : (b c : Bool) → b ≡ true → c ≡ true → (b && c) ≡ true
from_both true c p q = q
from_both false c p q = absurd (both_ways false refl p)

not_false : (b : Bool) → not b ≡ true → b ≡ false
not_false true e = absurd (both_ways false refl e)
not_false false e = refl

-- where the first part is true and the whole isn't, the other part is false
not_second : (b c : Bool) → b ≡ true → (b && c) ≢ true → not c ≡ true
not_second true true p n = absurd (n refl)
not_second true false p n = refl
not_second false c p n = absurd (both_ways false refl p)

module _ (laws : HeldLaws) (grow : DialoguesGrowAtTheEnd) (image : Image) (p : Plan) (k : Kind) where
  -- the chip right after the next access

  pub begins_from : (i : Assignment) (c : Chip) → Asks (runs_of image p) i c → Begins (runs_of image (longer_plan p k)) i (applied image (event.Host (next_access p k i)) c)
  begins_from i c asks =
      subst (λ (l : List Access). Given image p.pace l (powered (start_under i p.power)) (applied image (event.Host (next_access p k i)) c)) (sym (grow p.kinds k i))
      ((laws.last_given image p.pace (accesses_under i 0 p.kinds) (next_access p k i) (powered (start_under i p.power)) (applied image (event.Host (next_access p k i)) c)).1 (c, asks, refl))

  pub begins_at : (i : Assignment) (b : Chip) → Begins (runs_of image (longer_plan p k)) i b → (c : Chip) × Asks (runs_of image p) i c × (applied image (event.Host (next_access p k i)) c ≡ b)
  begins_at i b h =
      (laws.last_given image p.pace (accesses_under i 0 p.kinds) (next_access p k i) (powered (start_under i p.power)) b).0
      (subst (λ (l : List Access). Given image p.pace l (powered (start_under i p.power)) b) (grow p.kinds k i) h)

  pub begins_comes : (i : Assignment) (b : Chip) → Begins (runs_of image (longer_plan p k)) i b → Comes (runs_of image (longer_plan p k)) i b
  begins_comes i b h = record { start = b; begins = h; leads = (0, refl) }

  -- its point

  point_after : (kd : Kind) (i : Assignment) (c : Chip) → point_at p.side (p.kinds ++ kd ∷ []) (applied image (event.Host (access_under i (length p.kinds) kd)) c)
      ≡ point_given kd (shown_of (accessed (access_under i (length p.kinds) kd) c.machine)) (point_at p.side p.kinds c)
  point_after kind.Read i c = (laws.points_go_on image p.side p.kinds c).read
  point_after kind.Write i c = (laws.points_go_on image p.side p.kinds c).write _

  asks_fresh : (i : Assignment) (c : Chip) → Asks (runs_of image p) i c → IsFresh c
  asks_fresh i c asks = laws.first_fresh image p.pace (start_under i p.power) (accesses_under i 0 p.kinds) c asks

  module _ (g : Terms) (q : Request) where
    pub given_at : (n : Entry) → FollowsGiving g p k q n → (i : Assignment) → IsAssignment i → (c : Chip) → Asks (runs_of image p) i c → StandsFor i g q.state c.machine → bit_value i g n.cond ≡ true
        → IsAt (entry_view g) (runs_of image (longer_plan p k)) i n (applied image (event.Host (next_access p k i)) c)
    given_at n f i a c asks t h = record {
      holds = h;
      stands = f.stands i a h c.machine t;
      key =
          point_after k i c
          ∙ (ap (point_given k (shown_of (accessed (next_access p k i) c.machine))) (asked_point p c q.state (asks_fresh i c asks) (f.from_shows i c.machine t))
          ∙ sym (f.key i a h c.machine t));
    }

    pub given_sound : (n : Entry) → FollowsGiving g p k q n → IsAsked g image p q → IsSound (entry_view g) (runs_of image (longer_plan p k)) n
    given_sound n f s i a h =
        let t = s i a (f.holds i a h) in
        let b = begins_from i t.0 t.1 in (
          applied image (event.Host (next_access p k i)) t.0,
          begins_comes i (applied image (event.Host (next_access p k i)) t.0) b,
          given_at n f i a t.0 t.1 t.2 h,
        )

    -- an entry is at it
    pub given_some : (ns : List Entry) → AreGiven g image p k q ns → IsAsked g image p q → (i : Assignment) → IsAssignment i → bit_value i g q.cond ≡ true
        → (b : Chip) → Begins (runs_of image (longer_plan p k)) i b → IsAtSome (entry_view g) (runs_of image (longer_plan p k)) ns i b
    given_some ns are s i a h b begins =
        let t = s i a h in
        let d = begins_at i b begins in
        let same : t.0 ≡ d.0 = laws.one_request image p.pace (accesses_under i 0 p.kinds) (powered (start_under i p.power)) t.0 d.0 t.1 d.1 in
        let n = are.some i a h in
        record {
          entry = n.0;
          listed = n.1;
          is_at = subst (IsAt (entry_view g) (runs_of image (longer_plan p k)) i n.0) (ap (applied image (event.Host (next_access p k i))) same ∙ d.2) (given_at n.0 (are.follow n.0 n.1) i a t.0 t.1 t.2 n.2);
        }

    -- and where its point was noted, the point of the request state was noted but for what the access changes
    pub given_noted : (ns : List Entry) → AreGiven g image p k q ns → IsAsked g image p q → (after : List ReachedPoint)
        → ((n : Entry) → Contains ns n → is_some n.witness ≡ true → Contains (points_of after) n.key) → IsPlaceNoted (longer_plan p k) q.state after
    given_noted [] are s after noted = absurd are.found
    given_noted (n ∷ ns) are s after noted = by_witness n.witness refl
      where
        here : Contains (n ∷ ns) n
        here = listed_head n n ns refl

        by_witness : (w : Option Assignment) → n.witness ≡ w → IsPlaceNoted (longer_plan p k) q.state after
        by_witness None e = absurd (both_ways false refl (ap is_some (sym e) ∙ are.found))
        by_witness (Some w) e =
            let x = are.each n here in
            let f = are.follow n here in
            let v = x.witness w e in
            let t = s w v.assignment (f.holds w v.assignment v.reached) in
            let r = point_listed after n.key (noted n here are.found) in
            let key = r.2 ∙ f.key w v.assignment v.reached t.0.machine t.2 in
            record {
              point = r.0;
              listed = r.1;
              side = ap (λ (y : Point). y.side) key;
              kinds = ap (λ (y : Point). y.kinds) key;
              pc = ap (λ (y : Point). y.pc) key ∙ (access_pc (next_access p k w) t.0.machine ∙ sym t.2.pc);
              sp = ap (λ (y : Point). y.sp) key ∙ (access_sp (next_access p k w) t.0.machine ∙ sym t.2.sp);
              stack = ap (λ (y : Point). y.stack) key ∙ (access_stack (next_access p k w) t.0.machine ∙ sym t.2.stack);
            }

-- the entries of a request state

module _ (image : Image) (p : Plan) (k : Kind) (g : Terms) (q : Request) where
  pub given_entry : (s : SymState) (c : BitId) (w : Option Assignment) (n : Entry) → ComesOfGiving g p k q s c w → IsGiven image p k q.state s c w n → IsEntry g image (longer_plan p k) n
  given_entry s c w n of is =
      let allowed = is_chosen (longer_plan p k).kinds p.power in
      record {
        state = subst (IsSymState g) (sym is.state) of.state;
        cond = subst (HasBit g) (sym is.cond) of.there;
        state_inputs = subst (StateHasOnly g allowed) (sym is.state) of.state_inputs;
        cond_inputs = subst (λ (b : BitId). HasOnly g allowed b.number) (sym is.cond) of.cond_inputs;
        shown = ap (λ (t : SymState). showing (shows t) n.key) is.state ∙ (ap (showing (shows s)) is.key ∙ sym is.key);
        side = ap (λ (y : Point). y.side) is.key;
        kinds = ap (λ (y : Point). y.kinds) is.key;
        count = subst (λ (m : ℕ). m ≤ p.pace) (sym (ap (λ (y : Point). y.count) is.key)) (omega arith);
        rank = is.rank;
        witness = λ u e. subst (λ (b : BitId). IsWitness g (longer_plan p k) b u) (sym is.cond) (of.witness u (sym is.witness ∙ e));
      }

  pub given_follows : (s : SymState) (c : BitId) (w : Option Assignment) (n : Entry) → ComesOfGiving g p k q s c w → IsGiven image p k q.state s c w n → FollowsGiving g p k q n
  given_follows s c w n of is = record {
    holds = λ i a h. of.holds i a (true_c i h);
    stands = λ i a h m t. subst (λ (r : SymState). StandsFor i g r (accessed (next_access p k i) m)) (sym is.state) (of.stands i a (true_c i h) m t);
    key = λ i a h m t. is.key ∙ ap (λ (v : Shown). point_given k v (request_point p q.state)) (is.shows i g (accessed (next_access p k i) m) (of.stands i a (true_c i h) m t));
    from_shows = λ i m t. is.from_shows i g m t;
  }
    where
      true_c : (i : Assignment) → bit_value i g n.cond ≡ true → bit_value i g c ≡ true
      true_c i h = ap (λ (b : BitId). bit_value i g b) (sym is.cond) ∙ h

  pub one_is : (s : SymState) (n : Entry) → ComesOfGiving g p k q s q.cond (Some q.inputs) → IsGiven image p k q.state s q.cond (Some q.inputs) n → AreGiven g image p k q (n ∷ [])
  one_is s n of is = record {
    each = λ m c. subst (IsEntry g image (longer_plan p k)) (only m c) (given_entry s q.cond (Some q.inputs) n of is);
    follow = λ m c. subst (FollowsGiving g p k q) (only m c) (given_follows s q.cond (Some q.inputs) n of is);
    some = λ i a h. (n, listed_head n n [] refl, ap (λ (b : BitId). bit_value i g b) is.cond ∙ h);
    found = ap is_some is.witness;
  }
    where
      only : (m : Entry) → Contains (n ∷ []) m → n ≡ m
      only m c = elim (listed_cases n m [] c) [ inl e ↦ e | inr d ↦ absurd (listed_none m d) ]

  pub two_are : (here other : Way) (a b : Entry) → IsWay g p k q here (Some q.inputs) → IsWay g p k q other None → AreAllWays g q here other
      → IsGiven image p k q.state here.state here.cond (Some q.inputs) a → IsGiven image p k q.state other.state other.cond None b → AreGiven g image p k q (a ∷ b ∷ [])
  two_are here other a b x y all is at = record {
    each = λ m c. each m (cases m c);
    follow = λ m c. follow m (cases m c);
    some = λ i e h. some i e h (bit_value i g here.cond) refl;
    found = ap is_some is.witness;
  }
    where
      cases : (m : Entry) → Contains (a ∷ b ∷ []) m → (a ≡ m) ⊎ (b ≡ m)
      cases m c = elim (listed_cases a m (b ∷ []) c) [ inl e ↦ inl e | inr d ↦ last (listed_cases b m [] d) ]
        where
          last : (b ≡ m) ⊎ Contains [] m → (a ≡ m) ⊎ (b ≡ m)
          last (inl e) = inr e
          last (inr d) = absurd (listed_none m d)

      each : (m : Entry) → (a ≡ m) ⊎ (b ≡ m) → IsEntry g image (longer_plan p k) m
      each m (inl e) = subst (IsEntry g image (longer_plan p k)) e (given_entry here.state here.cond (Some q.inputs) a x is)
      each m (inr e) = subst (IsEntry g image (longer_plan p k)) e (given_entry other.state other.cond None b y at)

      follow : (m : Entry) → (a ≡ m) ⊎ (b ≡ m) → FollowsGiving g p k q m
      follow m (inl e) = subst (FollowsGiving g p k q) e (given_follows here.state here.cond (Some q.inputs) a x is)
      follow m (inr e) = subst (FollowsGiving g p k q) e (given_follows other.state other.cond None b y at)

      some : (i : Assignment) → IsAssignment i → bit_value i g q.cond ≡ true → (v : Bool) → bit_value i g here.cond ≡ v → (n : Entry) × Contains (a ∷ b ∷ []) n × (bit_value i g n.cond ≡ true)
      some i e h true v = (a, listed_head a a (b ∷ []) refl, ap (λ (c : BitId). bit_value i g c) is.cond ∙ v)
      some i e h false v = (
        b,
        listed_tail a b (b ∷ []) (listed_head b b [] refl),
        ap (λ (c : BitId). bit_value i g c) at.cond ∙ all i e h (λ (t : bit_value i g here.cond ≡ true). both_ways (bit_value i g here.cond) v t),
      )

-- request states where the graph grows

module _ (keeps : GrowthKeepsStates) (image : Image) (p : Plan) (g h : Terms) (grown : Grown g h) where
  pub request_grown : (q : Request) → IsRequest g p q → IsRequest h p q
  request_grown q x =
      let s = keeps g h grown in
      record {
        state = s.there q.state x.state;
        cond = grown.bits q.cond x.cond;
        stands = x.stands;
        state_inputs = s.only (is_chosen p.kinds p.power) q.state x.state x.state_inputs;
        cond_inputs = grown.bit_inputs (is_chosen p.kinds p.power) q.cond x.cond x.cond_inputs;
        assignment = x.assignment;
        normal = x.normal;
        reached = grown.bit_values q.inputs q.cond x.cond ∙ x.reached;
      }

  pub asked_grown : (q : Request) → IsRequest g p q → IsAsked g image p q → IsAsked h image p q
  asked_grown q x s i a e =
      let t = s i a (sym (grown.bit_values i q.cond x.cond) ∙ e) in
      (t.0, t.1, (keeps g h grown).stands i q.state t.0.machine x.state t.2)

-- the ways of a transfer

module _ (grow : DialoguesGrowAtTheEnd) (keep : NormalisedInputsKeepTheDialogue) (p : Plan) (k : Kind) (q : Request) (short : length p.kinds < 16) where
  pub request_witness : (f h : Terms) → IsRequest f p q → (c : BitId) → bit_value q.inputs h c ≡ true → (u : Assignment) → Some q.inputs ≡ Some u → IsWitness h (longer_plan p k) c u
  request_witness f h x c e u same =
      let one : q.inputs ≡ u = cc in
      subst (IsWitness h (longer_plan p k) c) one (record {
        assignment = x.assignment;
        normal = normal_longer grow keep p.kinds k p.power q.inputs short x.normal;
        reached = e;
      })

  no_witness : (h : Terms) (c : BitId) (u : Assignment) → None ≡ Some u → IsWitness h (longer_plan p k) c u
  no_witness h c u e = absurd (let f = e in cc)

  pub one_comes : (g : Terms) (s : SymState) → IsRequest g p q → IsSymState g s → StateHasOnly g (is_chosen (longer_plan p k).kinds p.power) s → GivesTo g p k q.state (One s) → ComesOfGiving g p k q s q.cond (Some q.inputs)
  one_comes g s x there only gives = record {
    state = there;
    there = x.cond;
    state_inputs = only;
    cond_inputs = more_only g (is_chosen p.kinds p.power) (is_chosen (longer_plan p k).kinds p.power) (chosen_stays p.kinds k p.power) q.cond.number x.cond_inputs;
    holds = λ i a e. e;
    stands = λ i a e m t. gives i a m t;
    witness = request_witness g g x q.cond x.reached;
  }

  module _ (keeps : GrowthKeepsStates) (f h : Terms) (grown : Grown f h) (x : IsRequest f p q) (cond : BitId) (yes no : SymState) (gives : GivesTo f p k q.state (Fork cond yes no)) (first second : BitId)
      (first_value : (i : Assignment) → IsAssignment i → bit_value i h first ≡ (bit_value i f q.cond && bit_value i f cond))
      (second_value : (i : Assignment) → IsAssignment i → bit_value i h second ≡ (bit_value i f q.cond && not (bit_value i f cond))) where
    cond_back : (i : Assignment) → bit_value i h q.cond ≡ bit_value i f q.cond
    cond_back i = grown.bit_values i q.cond x.cond

    back : (i : Assignment) (m : State) → StandsFor i h q.state m → StandsFor i f q.state m
    back i m t = (keeps f h grown).stood i q.state m x.state t

    chosen_yes : (i : Assignment) (m : State) (b : Bool) → b ≡ true → StandsFor i f (if b then yes else no) m → StandsFor i f yes m
    chosen_yes i m true e t = t
    chosen_yes i m false e t = absurd (both_ways false refl e)

    chosen_no : (i : Assignment) (m : State) (b : Bool) → b ≡ false → StandsFor i f (if b then yes else no) m → StandsFor i f no m
    chosen_no i m true e t = absurd (both_ways true e refl)
    chosen_no i m false e t = t

    first_parts : (i : Assignment) → IsAssignment i → bit_value i h first ≡ true → (bit_value i f q.cond ≡ true) × (bit_value i f cond ≡ true)
    first_parts i a e = both_true (bit_value i f q.cond) (bit_value i f cond) (sym (first_value i a) ∙ e)

    second_parts : (i : Assignment) → IsAssignment i → bit_value i h second ≡ true → (bit_value i f q.cond ≡ true) × (not (bit_value i f cond) ≡ true)
    second_parts i a e = both_true (bit_value i f q.cond) (not (bit_value i f cond)) (sym (second_value i a) ∙ e)

    -- where the request state's condition is true and the one way's isn't, the other's is

    second_else : (i : Assignment) → IsAssignment i → bit_value i h q.cond ≡ true → bit_value i h first ≢ true → bit_value i h second ≡ true
    second_else i a e n =
        let here = sym (cond_back i) ∙ e in
        second_value i a ∙ from_both (bit_value i f q.cond) (not (bit_value i f cond)) here (not_second (bit_value i f q.cond) (bit_value i f cond) here (λ (t : (bit_value i f q.cond && bit_value i f cond) ≡ true). n (first_value i a ∙ t)))

    first_else : (i : Assignment) → IsAssignment i → bit_value i h q.cond ≡ true → bit_value i h second ≢ true → bit_value i h first ≡ true
    first_else i a e n = by_cond (bit_value i f cond) refl
      where
        here : bit_value i f q.cond ≡ true
        here = sym (cond_back i) ∙ e

        by_cond : (b : Bool) → bit_value i f cond ≡ b → bit_value i h first ≡ true
        by_cond true c = first_value i a ∙ from_both (bit_value i f q.cond) (bit_value i f cond) here c
        by_cond false c = absurd (n (second_value i a ∙ from_both (bit_value i f q.cond) (not (bit_value i f cond)) here (ap not c)))

    module _ (there_yes : IsSymState f yes) (there_no : IsSymState f no) (only_yes : StateHasOnly f (is_chosen (longer_plan p k).kinds p.power) yes) (only_no : StateHasOnly f (is_chosen (longer_plan p k).kinds p.power) no)
        (bit_first : HasBit h first) (bit_second : HasBit h second) (only_first : HasOnly h (is_chosen (longer_plan p k).kinds p.power) first.number) (only_second : HasOnly h (is_chosen (longer_plan p k).kinds p.power) second.number) where
      yes_comes : (w : Option Assignment) → ((u : Assignment) → w ≡ Some u → IsWitness h (longer_plan p k) first u) → ComesOfGiving h p k q yes first w
      yes_comes w witness = record {
        state = (keeps f h grown).there yes there_yes;
        there = bit_first;
        state_inputs = (keeps f h grown).only (is_chosen (longer_plan p k).kinds p.power) yes there_yes only_yes;
        cond_inputs = only_first;
        holds = λ i a e. cond_back i ∙ (first_parts i a e).0;
        stands = λ i a e m t. (keeps f h grown).stands i yes (accessed (next_access p k i) m) there_yes (chosen_yes i (accessed (next_access p k i) m) (bit_value i f cond) (first_parts i a e).1 (gives i a m (back i m t)));
        witness = witness;
      }

      no_comes : (w : Option Assignment) → ((u : Assignment) → w ≡ Some u → IsWitness h (longer_plan p k) second u) → ComesOfGiving h p k q no second w
      no_comes w witness = record {
        state = (keeps f h grown).there no there_no;
        there = bit_second;
        state_inputs = (keeps f h grown).only (is_chosen (longer_plan p k).kinds p.power) no there_no only_no;
        cond_inputs = only_second;
        holds = λ i a e. cond_back i ∙ (second_parts i a e).0;
        stands = λ i a e m t. (keeps f h grown).stands i no (accessed (next_access p k i) m) there_no (chosen_no i (accessed (next_access p k i) m) (bit_value i f cond) (not_false (bit_value i f cond) (second_parts i a e).1) (gives i a m (back i m t)));
        witness = witness;
      }

      yes_way : Way
      yes_way = record { cond = first; state = yes }

      no_way : Way
      no_way = record { cond = second; state = no }

      -- in the order in which the request state's own inputs go
      pub are_ways : (b : Bool) (here other : Way) → b ≡ bit_value q.inputs h first → IsInOrder b (record { cond = first; state = yes }) (record { cond = second; state = no }) here other
          → IsWay h p k q here (Some q.inputs) × IsWay h p k q other None × AreAllWays h q here other
      unfolding yes_way no_way
      are_ways true here other e o = (
        subst (λ (v : Way). IsWay h p k q v (Some q.inputs)) (sym o.0) (yes_comes (Some q.inputs) (request_witness f h x first (sym e))),
        subst (λ (v : Way). IsWay h p k q v None) (sym o.1) (no_comes None (no_witness h second)),
        subst (λ (v : Way). AreAllWays h q v other) (sym o.0) (subst (λ (v : Way). AreAllWays h q yes_way v) (sym o.1) second_else),
      )
      are_ways false here other e o = (
        subst (λ (v : Way). IsWay h p k q v (Some q.inputs)) (sym o.0) (no_comes (Some q.inputs) (request_witness f h x second (second_else q.inputs x.assignment (cond_back q.inputs ∙ x.reached) (λ (t : bit_value q.inputs h first ≡ true). both_ways false refl (e ∙ t))))),
        subst (λ (v : Way). IsWay h p k q v None) (sym o.1) (yes_comes None (no_witness h first)),
        subst (λ (v : Way). AreAllWays h q v other) (sym o.0) (subst (λ (v : Way). AreAllWays h q no_way v) (sym o.1) first_else),
      )

-- what a transfer leaves of a request state in the graph that has grown by it
pub gives_to : (keeps : GrowthKeepsStates) (f h : Terms) → Grown f h → (p : Plan) (k : Kind) (n : ℕ) → n ≡ length p.kinds → (s : SymState) (r : Stepped) → IsSymState f s → StandsAfter f h s (λ (i : Assignment). access_under i n k) r → GivesTo h p k s r
gives_to keeps f h grown p k n same s r there after i a m t =
    subst (λ (j : ℕ). StandsFor i h (chosen i h r) (accessed (access_under i j k) m)) same (after i a m ((keeps f h grown).stood i s m there t))

pub write_chosen : (p : Plan) (k : Kind) (n : ℕ) → n ≡ length p.kinds → k ≡ kind.Write → is_chosen (longer_plan p k).kinds p.power (Word (Byte n)) ≡ true
write_chosen p kind.Write n same e = subst (λ (j : ℕ). is_chosen (longer_plan p kind.Write).kinds p.power (Word (Byte j)) ≡ true) (sym same) (last_write p.kinds)
write_chosen p kind.Read n same e = absurd (let f = e in cc)
