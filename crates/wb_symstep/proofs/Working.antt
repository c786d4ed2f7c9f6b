-- What the ALU and the multiplier give, as parts of the machine.
use Rattle.std.proofs.Common.{◌≡◌, ℕ, ◌/◌, ◌%◌, Bool, [], ◌∷◌, ◌∙◌, ap, refl}
use Rattle.wb_word.specs.declared.codes.Alu.{Alu}
use Rattle.wb_term.specs.declared.nodes.Node.{Node}
use Rattle.wb_term.specs.declared.nodes.WordId.{WordId}
use Rattle.wb_term.specs.declared.nodes.BitId.{BitId}
use Rattle.wb_term.specs.Nodes.{Each}
use Rattle.wb_term.specs.Numbers.{product as term_product}
use Rattle.wb_term.specs.Terms.{Terms}
use Rattle.wb_term.specs.Values.{IsWord, word_value, bit_value}
use Rattle.wb_term.specs.Under.{HasOnly}
use Rattle.wb_term.specs.Growth.{Grown}
use Rattle.wb_make.specs.Inputs.{BringsOnly}
use Rattle.wb_alu.specs.declared.flags.Flags.{Flags}
use Rattle.wb_alu.specs.Operation.{alu_result, alu_flags}
use Rattle.wb_fold.specs.declared.flags.SymFlags.{SymFlags}
use Rattle.wb_fold.specs.Flags.{IsFlags, flags_value, flag_numbers}
use Rattle.wb_machine.specs.State.{State}
use Rattle.wb_machine.specs.Next.{product}
use Rattle.wb_symstep.specs.declared.state.SymState.{SymState}
use Rattle.wb_symstep.specs.State.{IsSymState, StateHasOnly}
use Rattle.wb_symstep.specs.Parts.{IsPart, IsBitPart, AreFlagsOf}
use Rattle.wb_symstep.proofs.Parts.{of_two, stood, state_had_only}

pub k_part : (g : Terms) (s : SymState) → IsSymState g s → IsPart g s s.k (λ m. m.regs.k)
k_part g s is = record { there = is.k; value = λ i m st. st.state.k; only = λ p o. o.k }

pub l_part : (g : Terms) (s : SymState) → IsSymState g s → IsPart g s s.l (λ m. m.regs.l)
l_part g s is = record { there = is.l; value = λ i m st. st.state.l; only = λ p o. o.l }

-- the machine and the graph have one product
same_product : (x y : ℕ) → term_product x y ≡ product x y
unfolding term_product product
same_product x y = refl

module _ (old new : Terms) (grown : Grown old new) (s : SymState) (is : IsSymState old s) where
  pub high : (id : WordId) → IsWord new id (λ inputs. term_product (word_value inputs old s.k) (word_value inputs old s.l) / 65536)
      → BringsOnly old new (s.k.number ∷ s.l.number ∷ []) id.number
      → IsPart new s id (λ m. product m.regs.k m.regs.l / 65536)
  high id is_id brings =
      let h = of_two old new grown s is s.k s.l id (λ m. m.regs.k) (λ m. m.regs.l) (λ x y. term_product x y / 65536)
      (k_part old s is) (l_part old s is) is_id brings in
      record { there = h.there; value = λ i m st. h.value i m st ∙ ap (λ (n : ℕ). n / 65536) (same_product m.regs.k m.regs.l); only = h.only }

  pub low : (id : WordId) → IsWord new id (λ inputs. term_product (word_value inputs old s.k) (word_value inputs old s.l) % 65536)
      → BringsOnly old new (s.k.number ∷ s.l.number ∷ []) id.number
      → IsPart new s id (λ m. product m.regs.k m.regs.l % 65536)
  low id is_id brings =
      let h = of_two old new grown s is s.k s.l id (λ m. m.regs.k) (λ m. m.regs.l) (λ x y. term_product x y % 65536)
      (k_part old s is) (l_part old s is) is_id brings in
      record { there = h.there; value = λ i m st. h.value i m st ∙ ap (λ (n : ℕ). n % 65536) (same_product m.regs.k m.regs.l); only = h.only }

  module _ (op : Alu) (q p value : WordId) (c : BitId) (f after : SymFlags) (q_part p_part : State → ℕ) (c_part : State → Bool) (f_part : State → Flags)
      (hq : IsPart old s q q_part) (hp : IsPart old s p p_part) (hc : IsBitPart old s c c_part) (hf : AreFlagsOf old s f f_part)
      (brings : (allowed : Node → Bool) →
      Each (HasOnly old allowed) (q.number ∷ p.number ∷ c.number ∷ flag_numbers f) →
      Each (HasOnly new allowed) (value.number ∷ flag_numbers after)) where
    only : (allowed : Node → Bool) → StateHasOnly new allowed s → Each (HasOnly new allowed) (value.number ∷ flag_numbers after)
    only allowed o =
        let had = state_had_only old new grown allowed s o in
        brings allowed (hq.only allowed had, (hp.only allowed had, (hc.only allowed had, hf.only allowed had)))

    pub result : IsWord new value (λ inputs. alu_result op (word_value inputs old q) (word_value inputs old p) (bit_value inputs old c))
        → IsPart new s value (λ m. alu_result op (q_part m) (p_part m) (c_part m))
    result is_value = record {
      there = is_value.there;
      value = λ i m st.
          let b = stood old new grown s is i m st in
          is_value.value i st.inputs_in
          ∙ ap (λ (n : ℕ). alu_result op n (word_value i old p) (bit_value i old c)) (hq.value i m b)
          ∙ ap (λ (n : ℕ). alu_result op (q_part m) n (bit_value i old c)) (hp.value i m b)
          ∙ ap (alu_result op (q_part m) (p_part m)) (hc.value i m b);
      only = λ allowed o. (only allowed o).0;
    }

    pub flags : IsFlags new after (λ inputs. alu_flags op (word_value inputs old q) (word_value inputs old p) (bit_value inputs old c) (flags_value inputs old f))
        → AreFlagsOf new s after (λ m. alu_flags op (q_part m) (p_part m) (c_part m) (f_part m))
    flags is_after = record {
      there = is_after.there;
      value = λ i m st.
          let b = stood old new grown s is i m st in
          is_after.value i st.inputs_in
          ∙ ap (λ (n : ℕ). alu_flags op n (word_value i old p) (bit_value i old c) (flags_value i old f)) (hq.value i m b)
          ∙ ap (λ (n : ℕ). alu_flags op (q_part m) n (bit_value i old c) (flags_value i old f)) (hp.value i m b)
          ∙ ap (λ (d : Bool). alu_flags op (q_part m) (p_part m) d (flags_value i old f)) (hc.value i m b)
          ∙ ap (alu_flags op (q_part m) (p_part m) (c_part m)) (hf.value i m b);
      only = λ allowed o. (only allowed o).1;
    }
