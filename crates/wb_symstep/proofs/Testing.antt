-- Tests on parts of the machine.
use Rattle.std.proofs.Common.{ℕ, ◌%◌, Bool, not, [], ◌∷◌, ◌∙◌, ap, bit_and, ◌==◌}
use Rattle.std.proofs.lemmas.Nat.{and_mask}
use Rattle.wb_term.specs.declared.nodes.WordId.{WordId}
use Rattle.wb_term.specs.declared.nodes.BitId.{BitId}
use Rattle.wb_term.specs.Terms.{Terms}
use Rattle.wb_term.specs.Values.{IsBit, word_value, bit_value}
use Rattle.wb_term.specs.Growth.{Grown}
use Rattle.wb_make.specs.Inputs.{BringsOnly}
use Rattle.wb_machine.specs.State.{State}
use Rattle.wb_symstep.specs.declared.state.SymState.{SymState}
use Rattle.wb_symstep.specs.State.{IsSymState}
use Rattle.wb_symstep.specs.Parts.{IsPart, IsBitPart}
use Rattle.wb_symstep.proofs.Parts.{stood, state_had_only}

module _ (old new : Terms) (grown : Grown old new) (s : SymState) (is : IsSymState old s) where
  pub inverted : (c id : BitId) (p : State → Bool) → IsBitPart old s c p → IsBit new id (λ inputs. not (bit_value inputs old c))
      → BringsOnly old new (c.number ∷ []) id.number → IsBitPart new s id (λ m. not (p m))
  inverted c id p h is_id brings = record {
    there = is_id.there;
    value = λ i m st. is_id.value i st.inputs_in ∙ ap not (h.value i m (stood old new grown s is i m st));
    only = λ allowed o. brings allowed (h.only allowed (state_had_only old new grown allowed s o), tt);
  }

  -- the low four bits of a part
  pub low_equal : (x : WordId) (id : BitId) (p : State → ℕ) (low : ℕ) → IsPart old s x (λ m. bit_and (p m) 15)
      → IsBit new id (λ inputs. word_value inputs old x == low)
      → BringsOnly old new (x.number ∷ []) id.number → IsBitPart new s id (λ m. p m % 16 == low)
  low_equal x id p low h is_id brings = record {
    there = is_id.there;
    value = λ i m st. is_id.value i st.inputs_in ∙ ap (λ (n : ℕ). n == low) (h.value i m (stood old new grown s is i m st) ∙ and_mask (p m) 4);
    only = λ allowed o. brings allowed (h.only allowed (state_had_only old new grown allowed s o), tt);
  }
