-- DP, RP and SR after a move, as parts of the machine.
use Rattle.std.proofs.Common.{◌≡◌, ℕ, Bool, [], ◌∷◌, ◌∙◌, ap}
use Rattle.wb_word.specs.declared.codes.Dst.{Dst}
use Rattle.wb_term.specs.declared.nodes.WordId.{WordId}
use Rattle.wb_term.specs.Terms.{Terms}
use Rattle.wb_term.specs.Values.{IsWord, word_value}
use Rattle.wb_term.specs.Growth.{Grown}
use Rattle.wb_make.specs.Inputs.{BringsOnly}
use Rattle.wb_machine.specs.State.{State}
use Rattle.wb_machine.specs.Next.{moved_sr}
use Rattle.wb_symstep.specs.declared.state.SymState.{SymState}
use Rattle.wb_symstep.specs.State.{status, IsSymState}
use Rattle.wb_symstep.specs.Parts.{IsPart, IsStatusOf, sr_written}
use Rattle.wb_symstep.proofs.Parts.{stood, state_had_only}

module _ (old new : Terms) (grown : Grown old new) (s : SymState) (is : IsSymState old s) where
  -- SR after a source raised it and the bus moved
  pub raised : (d : Dst) (bus id : WordId) (p : State → ℕ) (one other : Bool) (by_source : ℕ → ℕ) → IsPart old s bus p
      → ((word : ℕ) → status one s.drs word ≡ by_source (status s.rqm s.drs word))
      → ((b word : ℕ) → status other s.drs (sr_written d b word) ≡ moved_sr d b (status one s.drs word))
      → IsWord new id (λ inputs. sr_written d (word_value inputs old bus) (word_value inputs old s.sr))
      → BringsOnly old new (bus.number ∷ s.sr.number ∷ []) id.number
      → IsStatusOf new s other s.drs id (λ m. moved_sr d (p m) (by_source m.regs.sr))
  raised d bus id p one other by_source h source move is_id brings = record {
    there = is_id.there;
    value = λ i m st.
        let b = stood old new grown s is i m st in
        ap (status other s.drs) (is_id.value i st.inputs_in ∙ ap (λ (n : ℕ). sr_written d n (word_value i old s.sr)) (h.value i m b))
        ∙ move (p m) (word_value i old s.sr)
        ∙ ap (moved_sr d (p m)) (source (word_value i old s.sr) ∙ ap by_source b.state.sr);
    only = λ allowed o.
        let had = state_had_only old new grown allowed s o in
        brings allowed (h.only allowed had, (had.sr, tt));
  }

  pub status_kept : (rqm drs : Bool) (id : WordId) (part : State → ℕ) → IsStatusOf old s rqm drs id part → IsStatusOf new s rqm drs id part
  status_kept rqm drs id part h = record {
    there = grown.words id h.there;
    value = λ i m st. ap (status rqm drs) (grown.word_values i id h.there) ∙ h.value i m (stood old new grown s is i m st);
    only = λ allowed o. grown.word_inputs allowed id h.there (h.only allowed (state_had_only old new grown allowed s o));
  }
