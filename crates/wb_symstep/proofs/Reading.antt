-- What is read by the pointers, as parts of the machine.
use Rattle.std.proofs.Common.{ℕ, ◌%◌, ◌<◌, Bool, ◌∙◌, ap, lit<, List, [], ◌∷◌, slice_index, if◌then◌else◌}
use Rattle.std.proofs.Math.Nat.{mod-eq_of_lt}
use Rattle.std.proofs.lemmas.Nat.{or_lt}
use Rattle.wb_term.specs.declared.nodes.Node.{Node}
use Rattle.wb_term.specs.declared.nodes.WordId.{WordId}
use Rattle.wb_term.specs.Terms.{Terms}
use Rattle.wb_term.specs.Values.{IsWord, word_value, bit_value}
use Rattle.wb_term.specs.Under.{HasOnly}
use Rattle.wb_term.specs.Growth.{Grown}
use Rattle.wb_make.specs.Inputs.{BringsOnly}
use Rattle.wb_alu.specs.declared.flags.Flags.{Flags}
use Rattle.wb_fold.specs.Ram.{word_in, WordsHaveOnly, selected}
use Rattle.wb_machine.specs.State.{State, IsState}
use Rattle.wb_machine.specs.Next.{far_address}
use Rattle.wb_symstep.specs.declared.state.SymState.{SymState}
use Rattle.wb_symstep.specs.State.{status, IsSymState}
use Rattle.wb_symstep.specs.Parts.{IsPart, AreFlagsOf}
use Rattle.wb_symstep.proofs.Parts.{stood, state_had_only}

-- the registers of a state are parts
pub dp_part : (g : Terms) (s : SymState) → IsSymState g s → IsPart g s s.dp (λ m. m.regs.dp)
dp_part g s is = record { there = is.dp; value = λ i m st. st.state.dp; only = λ p o. o.dp }

pub rp_part : (g : Terms) (s : SymState) → IsSymState g s → IsPart g s s.rp (λ m. m.regs.rp)
rp_part g s is = record { there = is.rp; value = λ i m st. st.state.rp; only = λ p o. o.rp }

pub far_below : (dp : ℕ) → dp < 256 → far_address dp < 256
far_below dp h = or_lt 8 dp 64 h (lit< tt)

module _ (old new : Terms) (grown : Grown old new) (s : SymState) (is : IsSymState old s) where
  -- the word that the RAM has at an address
  pub read : (x id : WordId) (at : State → ℕ) → ((m : State) → IsState m → at m < 256) → IsPart old s x at
      → IsWord new id (λ inputs. selected inputs old s.ram x)
      → ((p : Node → Bool) → WordsHaveOnly old p s.ram → HasOnly old p x.number → HasOnly new p id.number)
      → IsPart new s id (λ m. slice_index m.ram (at m))
  read x id at below h is_id brings = record {
    there = is_id.there;
    value = λ i m st.
        let before = stood old new grown s is i m st in
        is_id.value i st.inputs_in
        ∙ ap (λ (n : ℕ). word_value i old (word_in s.ram (n % 256))) (h.value i m before)
        ∙ ap (λ (n : ℕ). word_value i old (word_in s.ram n)) (mod-eq_of_lt (below m st.machine_in))
        ∙ before.state.ram (at m) (below m st.machine_in);
    only = λ p o. let had = state_had_only old new grown p s o in brings p had.ram (h.only p had);
  }

  -- the word that a table has at RP
  pub looked : (id : WordId) (words : List ℕ) → IsWord new id (λ inputs. slice_index words (word_value inputs old s.rp % 1024))
      → BringsOnly old new (s.rp.number ∷ []) id.number
      → IsPart new s id (λ m. slice_index words m.regs.rp)
  looked id words is_id brings = record {
    there = is_id.there;
    value = λ i m st.
        let before = stood old new grown s is i m st in
        is_id.value i st.inputs_in
        ∙ ap (λ (n : ℕ). slice_index words (n % 1024)) before.state.rp
        ∙ ap (slice_index words) (mod-eq_of_lt st.machine_in.regs_in.rp_in);
    only = λ p o. brings p ((state_had_only old new grown p s o).rp, tt);
  }

  -- SR with its RQM and DRS
  pub status_read : (id : WordId) → IsWord new id (λ inputs. status s.rqm s.drs (word_value inputs old s.sr))
      → BringsOnly old new (s.sr.number ∷ []) id.number
      → IsPart new s id (λ m. m.regs.sr)
  status_read id is_id brings = record {
    there = is_id.there;
    value = λ i m st. is_id.value i st.inputs_in ∙ (stood old new grown s is i m st).state.sr;
    only = λ p o. brings p ((state_had_only old new grown p s o).sr, tt);
  }

  -- a number by the sign of A
  pub sign_read : (id : WordId) (most least : ℕ) → IsWord new id (λ inputs. if bit_value inputs old s.flags_a.s1 then most else least)
      → BringsOnly old new (s.flags_a.s1.number ∷ []) id.number
      → IsPart new s id (λ m. if m.regs.flags_a.s1 then most else least)
  sign_read id most least is_id brings = record {
    there = is_id.there;
    value = λ i m st.
        is_id.value i st.inputs_in
        ∙ ap (λ (f : Flags). if f.s1 then most else least) (stood old new grown s is i m st).state.flags_a;
    only = λ p o. brings p ((state_had_only old new grown p s o).flags_a.1.1.1.0, tt);
  }

pub a_part : (g : Terms) (s : SymState) → IsSymState g s → IsPart g s s.a (λ m. m.regs.a)
a_part g s is = record { there = is.a; value = λ i m st. st.state.a; only = λ p o. o.a }

pub b_part : (g : Terms) (s : SymState) → IsSymState g s → IsPart g s s.b (λ m. m.regs.b)
b_part g s is = record { there = is.b; value = λ i m st. st.state.b; only = λ p o. o.b }

pub tr_part : (g : Terms) (s : SymState) → IsSymState g s → IsPart g s s.tr (λ m. m.regs.tr)
tr_part g s is = record { there = is.tr; value = λ i m st. st.state.tr; only = λ p o. o.tr }

pub trb_part : (g : Terms) (s : SymState) → IsSymState g s → IsPart g s s.trb (λ m. m.regs.trb)
trb_part g s is = record { there = is.trb; value = λ i m st. st.state.trb; only = λ p o. o.trb }

pub dr_part : (g : Terms) (s : SymState) → IsSymState g s → IsPart g s s.dr (λ m. m.regs.dr)
dr_part g s is = record { there = is.dr; value = λ i m st. st.state.dr; only = λ p o. o.dr }

pub so_part : (g : Terms) (s : SymState) → IsSymState g s → IsPart g s s.so (λ m. m.regs.so)
so_part g s is = record { there = is.so; value = λ i m st. st.state.so; only = λ p o. o.so }

pub flags_a_part : (g : Terms) (s : SymState) → IsSymState g s → AreFlagsOf g s s.flags_a (λ m. m.regs.flags_a)
flags_a_part g s is = record { there = is.flags_a; value = λ i m st. st.state.flags_a; only = λ p o. o.flags_a }

pub flags_b_part : (g : Terms) (s : SymState) → IsSymState g s → AreFlagsOf g s s.flags_b (λ m. m.regs.flags_b)
flags_b_part g s is = record { there = is.flags_b; value = λ i m st. st.state.flags_b; only = λ p o. o.flags_b }
