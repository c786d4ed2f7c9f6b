-- Jumps, calls and returns.
use Rattle.std.proofs.Common.{◌≡◌, ◌≢◌, ℕ, ◌<◌, Bool, true, false, List, length, refl, sym, ◌∙◌, ap, subst, if◌then◌else◌, slice_index, slice_set, ◌⊎◌, inl, inr, true≢false, Some, slice_get}
use Rattle.std.proofs.lemmas.Bool.{cases_eq}
use Rattle.std.proofs.lemmas.List.{get_or-set_same, get_or-set_other, length-set}
use Rattle.wb_word.specs.declared.conditions.Cond.{Cond}
use Rattle.wb_word.specs.declared.conditions.Cond.TheVariants as cond
use Rattle.wb_word.specs.declared.numbers.Addr.{Addr}
use Rattle.wb_word.specs.declared.numbers.Spare.{Spare}
use Rattle.wb_word.specs.declared.words.OpWord.{OpWord}
use Rattle.wb_word.specs.declared.words.Instr.TheVariants.{Op, Rt, Jp}
use Rattle.wb_rom.specs.declared.images.Image.{Image}
use Rattle.wb_term.specs.declared.nodes.Node.{Node}
use Rattle.wb_term.specs.declared.nodes.BitId.{BitId}
use Rattle.wb_term.specs.declared.nodes.BitNode.{BitNode}
use Rattle.wb_term.specs.declared.nodes.BitNode.TheVariants.{Known}
use Rattle.wb_term.specs.declared.nodes.Node.TheVariants.{Bit}
use Rattle.wb_term.specs.Inputs.{Assignment}
use Rattle.wb_term.specs.Terms.{Terms}
use Rattle.wb_term.specs.Values.{bit_node_value, bit_value, word_value}
use Rattle.wb_machine.specs.declared.registers.Regs.{Regs}
use Rattle.wb_machine.specs.State.{State}
use Rattle.wb_machine.specs.Next.{a_after, b_after, carried, dp_after, dr_after, flags_a_after, flags_b_after, following, k_after, l_after, next_by, pc_after, ram_after, regs_after, rp_after, so_after, sp_after, sp_called, sr_after, stack_after, stack_called, taken, tr_after, trb_after, worked, worked_flags, sp_up, sp_down}
use Rattle.wb_symstep.specs.declared.state.SymState.{SymState}
use Rattle.wb_symstep.specs.declared.stepped.Stepped.TheVariants.{One, Fork}
use Rattle.wb_symstep.specs.State.{status, StandsFor, IsSymState, StateHasOnly}
use Rattle.wb_symstep.specs.Stepped.{chosen, is_known, tests_terms, SaysTaken}
use Rattle.wb_symstep.specs.Parts.{Stands, IsBitPart, IsDecided, IsAfter, IsSteppedAfter}

keeps_sp : (c : Cond) (sp : ℕ) → c ≢ cond.Call → sp ≡ sp_called c sp
keeps_sp cond.Call sp h = absurd (h refl)
keeps_sp _ sp h = refl

keeps_stack : (c : Cond) (m : State) → c ≢ cond.Call → m.stack ≡ stack_called c m
keeps_stack cond.Call m h = absurd (h refl)
keeps_stack _ m h = refl

-- the same state at another place
moved_there : (g : Terms) (s : SymState) (to sp : ℕ) (stack : List ℕ) → IsSymState g s → to < 2048 → sp < 4 → length stack ≡ 4
    → ((k : ℕ) → k < 4 → slice_index stack k < 2048) → IsSymState g (record s { pc = to; sp = sp; stack = stack })
moved_there g s to sp stack is below sp_below len within = record {
  pc_in = below;
  sp_in = sp_below;
  stack_length = len;
  stack_in = within;
  rp = is.rp;
  dp = is.dp;
  a = is.a;
  b = is.b;
  tr = is.tr;
  trb = is.trb;
  k = is.k;
  l = is.l;
  dr = is.dr;
  sr = is.sr;
  so = is.so;
  flags_a = is.flags_a;
  flags_b = is.flags_b;
  ram_length = is.ram_length;
  ram = is.ram;
}

moved_only : (g : Terms) (allowed : Node → Bool) (s : SymState) (to sp : ℕ) (stack : List ℕ) → StateHasOnly g allowed s
    → StateHasOnly g allowed (record s { pc = to; sp = sp; stack = stack })
moved_only g allowed s to sp stack o = record {
  rp = o.rp;
  dp = o.dp;
  a = o.a;
  b = o.b;
  tr = o.tr;
  trb = o.trb;
  k = o.k;
  l = o.l;
  dr = o.dr;
  sr = o.sr;
  so = o.so;
  flags_a = o.flags_a;
  flags_b = o.flags_b;
  ram = o.ram;
}

-- what a jump leaves but for PC, SP and the stack
jumped : (i : Assignment) (g : Terms) (s : SymState) (m : State) (c : Cond) (na : Addr) (spare : Spare) (image : Image) (to sp : ℕ) (stack : List ℕ)
    → StandsFor i g s m → to ≡ (if taken c m.regs then na.value else following m.regs.pc) → sp ≡ sp_called c m.regs.sp → stack ≡ stack_called c m
    → StandsFor i g (record s { pc = to; sp = sp; stack = stack }) (next_by (Jp c na spare) image m)
unfolding next_by carried regs_after pc_after sp_after stack_after rp_after dp_after a_after b_after tr_after trb_after k_after l_after dr_after sr_after so_after flags_a_after flags_b_after ram_after worked worked_flags
jumped i g s m c na spare image to sp stack st pc_is sp_is stack_is = record {
  pc = pc_is;
  sp = sp_is;
  stack = stack_is;
  rp = st.rp;
  dp = st.dp;
  a = st.a;
  b = st.b;
  tr = st.tr;
  trb = st.trb;
  k = st.k;
  l = st.l;
  dr = st.dr;
  sr = st.sr;
  so = st.so;
  flags_a = st.flags_a;
  flags_b = st.flags_b;
  ram = st.ram;
}

module _ (g : Terms) (s : SymState) (is : IsSymState g s) (c : Cond) (na : Addr) (spare : Spare) (image : Image) where
  at_stands : (i : Assignment) (m : State) (to : ℕ) → c ≢ cond.Call → Stands i g s m → to ≡ (if taken c m.regs then na.value else following m.regs.pc)
      → StandsFor i g (record s { pc = to }) (next_by (Jp c na spare) image m)
  at_stands i m to other st e =
      jumped i g s m c na spare image to s.sp s.stack st.state e (st.state.sp ∙ keeps_sp c m.regs.sp other) (st.state.stack ∙ keeps_stack c m other)

  at_there : (to : ℕ) → to < 2048 → IsSymState g (record s { pc = to })
  at_there to below = moved_there g s to s.sp s.stack is below is.sp_in is.stack_length is.stack_in

  at_only : (allowed : Node → Bool) (to : ℕ) → StateHasOnly g allowed s → StateHasOnly g allowed (record s { pc = to })
  at_only allowed to o = moved_only g allowed s to s.sp s.stack o

  -- a jump that goes one way
  pub one_way : (to : ℕ) (known : Bool) → c ≢ cond.Call → IsDecided g s c known → to ≡ (if known then na.value else following s.pc) → to < 2048
      → IsSteppedAfter g s (One (record s { pc = to })) (next_by (Jp c na spare) image)
  one_way to known other decided e below = record {
    there = at_there to below;
    value = λ i m st. at_stands i m to other st
        (e ∙ ap (λ (b : Bool). if b then na.value else following s.pc) (sym (decided i m st))
        ∙ ap (λ (pc : ℕ). if taken c m.regs then na.value else following pc) st.state.pc);
    only = λ allowed o. at_only allowed to o;
  }

  -- a jump that goes either way
  pub two_ways : (says : BitId) (past : ℕ) → c ≢ cond.Call → IsBitPart g s says (λ m. taken c m.regs) → past ≡ following s.pc → past < 2048
      → IsSteppedAfter g s (Fork says (record s { pc = na.value }) (record s { pc = past })) (next_by (Jp c na spare) image)
  two_ways says past other part e below = record {
    there = (part.there, at_there na.value na.in_range, at_there past below);
    value = λ i m st. by i m st (bit_value i g says) refl (part.value i m st);
    only = λ allowed o. (part.only allowed o, at_only allowed na.value o, at_only allowed past o);
  } where
    by : (i : Assignment) (m : State) → Stands i g s m → (b : Bool) → bit_value i g says ≡ b → bit_value i g says ≡ taken c m.regs
        → StandsFor i g (chosen i g (Fork says (record s { pc = na.value }) (record s { pc = past }))) (next_by (Jp c na spare) image m)
    by i m st true is_b says_taken =
        subst (λ (d : Bool). StandsFor i g (if d then record s { pc = na.value } else record s { pc = past }) (next_by (Jp c na spare) image m)) (sym is_b)
        (at_stands i m na.value other st (ap (λ (d : Bool). if d then na.value else following m.regs.pc) (sym is_b ∙ says_taken)))
    by i m st false is_b says_taken =
        subst (λ (d : Bool). StandsFor i g (if d then record s { pc = na.value } else record s { pc = past }) (next_by (Jp c na spare) image m)) (sym is_b)
        (at_stands i m past other st (e ∙ ap following st.state.pc ∙ ap (λ (d : Bool). if d then na.value else following m.regs.pc) (sym is_b ∙ says_taken)))

-- the return stack after a call
pushed_in : (stack : List ℕ) (at v k : ℕ) → at < length stack → v < 2048 → slice_index stack k < 2048 → slice_index (slice_set stack at v) k < 2048
pushed_in stack at v k within below old = by (cases_eq k at) where
  by : ((k ≡ at) ⊎ (k ≡ at → ⊥)) → slice_index (slice_set stack at v) k < 2048
  by (inl e) = subst (λ (n : ℕ). n < 2048) (sym (ap (slice_index (slice_set stack at v)) e ∙ get_or-set_same stack at v 0 within)) below
  by (inr ne) = subst (λ (n : ℕ). n < 2048) (sym (get_or-set_other stack at k v 0 ne)) old

pub called : (g : Terms) (s : SymState) (na : Addr) (spare : Spare) (image : Image) (sp past : ℕ) (stack : List ℕ) → IsSymState g s
    → sp ≡ sp_up s.sp → sp < 4 → past ≡ following s.pc → past < 2048 → stack ≡ slice_set s.stack s.sp past
    → IsAfter g s (record s { pc = na.value; sp = sp; stack = stack }) (next_by (Jp cond.Call na spare) image)
unfolding taken
called g s na spare image sp past stack is sp_is below past_is past_in stack_is = record {
  there = moved_there g s na.value sp stack is na.in_range below
      (ap length stack_is ∙ length-set s.stack s.sp past ∙ is.stack_length)
      (λ k h. subst (λ (xs : List ℕ). slice_index xs k < 2048) (sym stack_is)
      (pushed_in s.stack s.sp past k (subst (λ (n : ℕ). s.sp < n) (sym is.stack_length) is.sp_in) past_in (is.stack_in k h)));
  value = λ i m st.
      jumped i g s m cond.Call na spare image na.value sp stack st.state refl
      (sp_is ∙ ap sp_up st.state.sp)
      (stack_is ∙ ap (λ (xs : List ℕ). slice_set xs s.sp past) st.state.stack
      ∙ ap (λ (n : ℕ). slice_set m.stack n past) st.state.sp
      ∙ ap (slice_set m.stack m.regs.sp) (past_is ∙ ap following st.state.pc));
  only = λ allowed o. moved_only g allowed s na.value sp stack o;
}

pub returned : (g : Terms) (s next : SymState) (op : OpWord) (image : Image) (pc sp : ℕ) → IsSymState g s → sp ≡ sp_down s.sp → sp < 4
    → pc ≡ slice_index s.stack sp → IsAfter g s next (next_by (Op op) image)
    → IsAfter g s (record next { pc = pc; sp = sp }) (next_by (Rt op) image)
unfolding next_by carried regs_after pc_after sp_after stack_after rp_after dp_after a_after b_after tr_after trb_after k_after l_after dr_after sr_after so_after flags_a_after flags_b_after ram_after worked worked_flags
returned g s next op image pc sp is sp_is below pc_is h = record {
  there = moved_there g next pc sp next.stack h.there (subst (λ (n : ℕ). n < 2048) (sym pc_is) (is.stack_in sp below)) below h.there.stack_length h.there.stack_in;
  value = λ i m st. let v = h.value i m st in record {
    pc = pc_is ∙ ap (slice_index s.stack) (sp_is ∙ ap sp_down st.state.sp) ∙ ap (λ (xs : List ℕ). slice_index xs (sp_down m.regs.sp)) st.state.stack;
    sp = sp_is ∙ ap sp_down st.state.sp;
    stack = v.stack;
    rp = v.rp;
    dp = v.dp;
    a = v.a;
    b = v.b;
    tr = v.tr;
    trb = v.trb;
    k = v.k;
    l = v.l;
    dr = v.dr;
    sr = v.sr;
    so = v.so;
    flags_a = v.flags_a;
    flags_b = v.flags_b;
    ram = v.ram;
  };
  only = λ allowed o. moved_only g allowed next pc sp next.stack (h.only allowed o);
}

pub not_call : (c : Cond) → tests_terms c ≡ true → c ≢ cond.Call
not_call c terms e = absurd (true≢false (sym terms ∙ ap tests_terms e))

-- a constant node decides
pub known_decides : (g : Terms) (s : SymState) (c : Cond) (says : BitId) (n : BitNode) (v : Bool) → IsBitPart g s says (λ m. taken c m.regs) → n ≡ Known v
    → ((inputs : Assignment) → bit_value inputs g says ≡ bit_node_value (word_value inputs g) (bit_value inputs g) n) → IsDecided g s c v
known_decides g s c says n v part e node i m st =
    sym (part.value i m st) ∙ node i ∙ ap (bit_node_value (word_value i g) (bit_value i g)) e

pub says_taken : (g : Terms) (s : SymState) (c : Cond) (says : BitId) → IsBitPart g s says (λ m. taken c m.regs) → SaysTaken g s c says
says_taken g s c says part i m a is st = part.value i m (record { inputs_in = a; machine_in = is; state = st })

pub unknown : (g : Terms) (number : ℕ) (n : BitNode) → slice_get g.nodes number ≡ Some (Bit n) → is_known (Some (Bit n)) ≡ false → is_known (slice_get g.nodes number) ≡ false
unknown g number n at none = ap is_known at ∙ none

-- a condition that neither a flag nor DP decides
pub plain_decides : (g : Terms) (s : SymState) (c : Cond) (v : Bool)
    → ((drs : Bool) (word : ℕ) (r : Regs) → r.sr ≡ status s.rqm drs word → taken c r ≡ v) → IsDecided g s c v
plain_decides g s c v h i m st = h s.drs (word_value i g s.sr) m.regs (sym st.state.sr)

-- one state is no fork
pub alone : (g : Terms) (s next : SymState) (step : State → State) → IsAfter g s next step → IsSteppedAfter g s (One next) step
alone g s next step h = record { there = h.there; value = h.value; only = h.only }
