-- Parts of the machine in a graph that grows, and the parts that the operations on terms give.
use Rattle.std.proofs.Common.{ℕ, ◌<◌, Bool, List, [], ◌∷◌, sym, ◌∙◌, ap, subst}
use Rattle.wb_term.specs.declared.nodes.Node.{Node}
use Rattle.wb_term.specs.declared.nodes.WordId.{WordId}
use Rattle.wb_term.specs.declared.nodes.BitId.{BitId}
use Rattle.wb_term.specs.Nodes.{Each}
use Rattle.wb_term.specs.Inputs.{Assignment}
use Rattle.wb_term.specs.Terms.{Terms}
use Rattle.wb_term.specs.Values.{IsWord, word_value}
use Rattle.wb_term.specs.Under.{IsUnder, HasOnly, Itself, Below}
use Rattle.wb_term.specs.Growth.{Grown}
use Rattle.wb_make.specs.Inputs.{BringsOnly}
use Rattle.wb_alu.specs.declared.flags.Flags.{Flags}
use Rattle.wb_fold.specs.declared.flags.SymFlags.{SymFlags}
use Rattle.wb_fold.specs.Flags.{flag_numbers}
use Rattle.wb_machine.specs.State.{State}
use Rattle.wb_symstep.specs.declared.state.SymState.{SymState}
use Rattle.wb_symstep.specs.State.{IsSymState, StateHasOnly}
use Rattle.wb_symstep.specs.Parts.{Stands, IsPart, IsBitPart, AreFlagsOf, IsRamOf}
use Rattle.wb_symstep.proofs.States.{states_stay, HasFlags-kept, flags_value-kept, FlagsHaveOnly-kept}

module _ (old new : Terms) (grown : Grown old new) where
  under : (j k : ℕ) → IsUnder old j k → IsUnder new j k
  under j k (Itself _ _ e) = Itself j k e
  under j k (Below _ _ c n at among u) = Below j k c n (grown.nodes k n at) among (under j c u)

  -- what has only such input nodes in the new graph had only those in the old one
  had_only : (p : Node → Bool) (k : ℕ) → HasOnly new p k → HasOnly old p k
  had_only p k h = record { passes = λ j n u at. h.passes j n (under j k u) (grown.nodes j n at) }

  flags_had_only : (p : Node → Bool) (f : SymFlags) → Each (HasOnly new p) (flag_numbers f) → Each (HasOnly old p) (flag_numbers f)
  flags_had_only p f e =
      (had_only p _ e.0, (had_only p _ e.1.0, (had_only p _ e.1.1.0, (had_only p _ e.1.1.1.0, (had_only p _ e.1.1.1.1.0, (had_only p _ e.1.1.1.1.1.0, tt))))))

  pub state_had_only : (p : Node → Bool) (s : SymState) → StateHasOnly new p s → StateHasOnly old p s
  state_had_only p s only = record {
    rp = had_only p _ only.rp;
    dp = had_only p _ only.dp;
    a = had_only p _ only.a;
    b = had_only p _ only.b;
    tr = had_only p _ only.tr;
    trb = had_only p _ only.trb;
    k = had_only p _ only.k;
    l = had_only p _ only.l;
    dr = had_only p _ only.dr;
    sr = had_only p _ only.sr;
    so = had_only p _ only.so;
    flags_a = flags_had_only p s.flags_a only.flags_a;
    flags_b = flags_had_only p s.flags_b only.flags_b;
    ram = record { only = λ k within. had_only p _ (only.ram.only k within) };
  }

  module _ (s : SymState) (is : IsSymState old s) where
    pub stood : (i : Assignment) (m : State) → Stands i new s m → Stands i old s m
    stood i m st = record {
      inputs_in = st.inputs_in;
      machine_in = st.machine_in;
      state = (states_stay old new grown).stood i s m is st.state;
    }

    pub part_kept : (id : WordId) (part : State → ℕ) → IsPart old s id part → IsPart new s id part
    part_kept id part h = record {
      there = grown.words id h.there;
      value = λ i m st. grown.word_values i id h.there ∙ h.value i m (stood i m st);
      only = λ p o. grown.word_inputs p id h.there (h.only p (state_had_only p s o));
    }

    pub bit_kept : (id : BitId) (part : State → Bool) → IsBitPart old s id part → IsBitPart new s id part
    bit_kept id part h = record {
      there = grown.bits id h.there;
      value = λ i m st. grown.bit_values i id h.there ∙ h.value i m (stood i m st);
      only = λ p o. grown.bit_inputs p id h.there (h.only p (state_had_only p s o));
    }

    pub flags_kept : (f : SymFlags) (part : State → Flags) → AreFlagsOf old s f part → AreFlagsOf new s f part
    flags_kept f part h = record {
      there = HasFlags-kept old new grown f h.there;
      value = λ i m st. flags_value-kept old new grown i f h.there ∙ h.value i m (stood i m st);
      only = λ p o. FlagsHaveOnly-kept old new grown p f h.there (h.only p (state_had_only p s o));
    }

    pub ram_kept : (ids : List WordId) (part : State → List ℕ) → IsRamOf old s ids part → IsRamOf new s ids part
    ram_kept ids part h = record {
      len = h.len;
      there = record { there = λ k within. grown.words _ (h.there.there k within) };
      value = λ i m st k within.
          grown.word_values i _ (h.there.there k (subst (λ (n : ℕ). k < n) (sym h.len) within)) ∙ h.value i m (stood i m st) k within;
      only = λ p o. record { only = λ k within. grown.word_inputs p _ (h.there.there k within) ((h.only p (state_had_only p s o)).only k within) };
    }

    -- what is made of one part, and of two
    pub of_one : (x id : WordId) (part : State → ℕ) (f : ℕ → ℕ) → IsPart old s x part
        → IsWord new id (λ inputs. f (word_value inputs old x)) → BringsOnly old new (x.number ∷ []) id.number
        → IsPart new s id (λ m. f (part m))
    of_one x id part f h is_id brings = record {
      there = is_id.there;
      value = λ i m st. is_id.value i st.inputs_in ∙ ap f (h.value i m (stood i m st));
      only = λ p o. brings p (h.only p (state_had_only p s o), tt);
    }

    pub of_two : (x y id : WordId) (one other : State → ℕ) (f : ℕ → ℕ → ℕ) → IsPart old s x one → IsPart old s y other
        → IsWord new id (λ inputs. f (word_value inputs old x) (word_value inputs old y)) → BringsOnly old new (x.number ∷ y.number ∷ []) id.number
        → IsPart new s id (λ m. f (one m) (other m))
    of_two x y id one other f h k is_id brings = record {
      there = is_id.there;
      value = λ i m st. is_id.value i st.inputs_in ∙ ap (λ (n : ℕ). f n (word_value i old y)) (h.value i m (stood i m st)) ∙ ap (f (one m)) (k.value i m (stood i m st));
      only = λ p o. brings p (h.only p (state_had_only p s o), (k.only p (state_had_only p s o), tt));
    }
