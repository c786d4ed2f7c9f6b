-- A state in a graph that grows.
use Rattle.std.proofs.Common.{◌≡◌, ℕ, ◌<◌, Bool, sym, ◌∙◌, ap, subst}
use Rattle.wb_term.specs.declared.nodes.Node.{Node}
use Rattle.wb_term.specs.declared.nodes.WordId.{WordId}
use Rattle.wb_term.specs.Nodes.{Each}
use Rattle.wb_term.specs.Inputs.{Assignment}
use Rattle.wb_term.specs.Terms.{Terms, HasWord}
use Rattle.wb_term.specs.Values.{word_value}
use Rattle.wb_term.specs.Under.{HasOnly}
use Rattle.wb_term.specs.Growth.{Grown}
use Rattle.wb_fold.specs.declared.flags.SymFlags.{SymFlags}
use Rattle.wb_fold.specs.Ram.{word_in}
use Rattle.wb_fold.specs.Flags.{HasFlags, flags_value, flag_numbers}
use Rattle.wb_machine.specs.State.{State}
use Rattle.wb_symstep.specs.declared.state.SymState.{SymState}
use Rattle.wb_symstep.specs.State.{status, StandsFor, IsSymState, StateHasOnly}
use Rattle.wb_symstep.specs.Laws.{StatesStay}

module _ (old new : Terms) (grown : Grown old new) where
  pub HasFlags-kept : (f : SymFlags) → HasFlags old f → HasFlags new f
  HasFlags-kept f h = record {
    c = grown.bits f.c h.c;
    z = grown.bits f.z h.z;
    s0 = grown.bits f.s0 h.s0;
    s1 = grown.bits f.s1 h.s1;
    ov0 = grown.bits f.ov0 h.ov0;
    ov1 = grown.bits f.ov1 h.ov1;
  }

  pub flags_value-kept : (inputs : Assignment) (f : SymFlags) → HasFlags old f → flags_value inputs new f ≡ flags_value inputs old f
  flags_value-kept inputs f h =
      let c = grown.bit_values inputs f.c h.c in
      let z = grown.bit_values inputs f.z h.z in
      let s0 = grown.bit_values inputs f.s0 h.s0 in
      let s1 = grown.bit_values inputs f.s1 h.s1 in
      let ov0 = grown.bit_values inputs f.ov0 h.ov0 in
      let ov1 = grown.bit_values inputs f.ov1 h.ov1 in
      cc

  pub FlagsHaveOnly-kept : (p : Node → Bool) (f : SymFlags) → HasFlags old f → Each (HasOnly old p) (flag_numbers f) → Each (HasOnly new p) (flag_numbers f)
  FlagsHaveOnly-kept p f h e = (grown.bit_inputs p f.c h.c e.0, (grown.bit_inputs p f.z h.z e.1.0, (grown.bit_inputs p f.s0 h.s0 e.1.1.0, (grown.bit_inputs p f.s1 h.s1 e.1.1.1.0, (grown.bit_inputs p f.ov0 h.ov0 e.1.1.1.1.0, (grown.bit_inputs p f.ov1 h.ov1 e.1.1.1.1.1.0, tt))))))

  pub IsSymState-kept : (s : SymState) → IsSymState old s → IsSymState new s
  IsSymState-kept s h = record {
    pc_in = h.pc_in;
    sp_in = h.sp_in;
    stack_length = h.stack_length;
    stack_in = h.stack_in;
    rp = grown.words s.rp h.rp;
    dp = grown.words s.dp h.dp;
    a = grown.words s.a h.a;
    b = grown.words s.b h.b;
    tr = grown.words s.tr h.tr;
    trb = grown.words s.trb h.trb;
    k = grown.words s.k h.k;
    l = grown.words s.l h.l;
    dr = grown.words s.dr h.dr;
    sr = grown.words s.sr h.sr;
    so = grown.words s.so h.so;
    flags_a = HasFlags-kept s.flags_a h.flags_a;
    flags_b = HasFlags-kept s.flags_b h.flags_b;
    ram_length = h.ram_length;
    ram = record { there = λ k within. grown.words _ (h.ram.there k within) };
  }

  -- a state stands in one graph for what it stands for in another, where the values of its terms are the same
  moved : (inputs : Assignment) (g h : Terms)
      → ((x : WordId) → HasWord old x → word_value inputs h x ≡ word_value inputs g x)
      → ((f : SymFlags) → HasFlags old f → flags_value inputs h f ≡ flags_value inputs g f)
      → (s : SymState) (m : State) → IsSymState old s → StandsFor inputs g s m → StandsFor inputs h s m
  moved inputs g h w f s m is st = record {
    pc = st.pc;
    sp = st.sp;
    stack = st.stack;
    rp = w s.rp is.rp ∙ st.rp;
    dp = w s.dp is.dp ∙ st.dp;
    a = w s.a is.a ∙ st.a;
    b = w s.b is.b ∙ st.b;
    tr = w s.tr is.tr ∙ st.tr;
    trb = w s.trb is.trb ∙ st.trb;
    k = w s.k is.k ∙ st.k;
    l = w s.l is.l ∙ st.l;
    dr = w s.dr is.dr ∙ st.dr;
    sr = ap (status s.rqm s.drs) (w s.sr is.sr) ∙ st.sr;
    so = w s.so is.so ∙ st.so;
    flags_a = f s.flags_a is.flags_a ∙ st.flags_a;
    flags_b = f s.flags_b is.flags_b ∙ st.flags_b;
    ram = λ k within. w (word_in s.ram k) (is.ram.there k (subst (λ (n : ℕ). k < n) (sym is.ram_length) within)) ∙ st.ram k within;
  }

  pub StateHasOnly-kept : (p : Node → Bool) (s : SymState) → IsSymState old s → StateHasOnly old p s → StateHasOnly new p s
  StateHasOnly-kept p s is only = record {
    rp = grown.word_inputs p s.rp is.rp only.rp;
    dp = grown.word_inputs p s.dp is.dp only.dp;
    a = grown.word_inputs p s.a is.a only.a;
    b = grown.word_inputs p s.b is.b only.b;
    tr = grown.word_inputs p s.tr is.tr only.tr;
    trb = grown.word_inputs p s.trb is.trb only.trb;
    k = grown.word_inputs p s.k is.k only.k;
    l = grown.word_inputs p s.l is.l only.l;
    dr = grown.word_inputs p s.dr is.dr only.dr;
    sr = grown.word_inputs p s.sr is.sr only.sr;
    so = grown.word_inputs p s.so is.so only.so;
    flags_a = FlagsHaveOnly-kept p s.flags_a is.flags_a only.flags_a;
    flags_b = FlagsHaveOnly-kept p s.flags_b is.flags_b only.flags_b;
    ram = record { only = λ k within. grown.word_inputs p (word_in s.ram k) (is.ram.there k within) (only.ram.only k within) };
  }

  pub states_stay : StatesStay old new
  states_stay = record {
    there = IsSymState-kept;
    stands = λ inputs. moved inputs old new (grown.word_values inputs) (flags_value-kept inputs);
    stood = λ inputs. moved inputs new old (λ x h. sym (grown.word_values inputs x h)) (λ f h. sym (flags_value-kept inputs f h));
    only = StateHasOnly-kept;
  }
