-- A store into the RAM, as a part of the machine.
use Rattle.std.proofs.Common.{◌≡◌, ℕ, ◌%◌, ◌<◌, ◌⊎◌, Bool, List, length, sym, ◌∙◌, ap, subst, inl, inr, slice_index, slice_set, if◌then◌else◌, ◌==◌, ◌≢◌, refl}
use Rattle.std.proofs.lemmas.Bool.{cases_eq, eq-eqb, ne_eqb}
use Rattle.std.proofs.lemmas.List.{get_or-set_same, get_or-set_other}
use Rattle.std.proofs.Math.Nat.{mod-eq_of_lt}
use Rattle.wb_term.specs.declared.nodes.Node.{Node}
use Rattle.wb_term.specs.declared.nodes.WordId.{WordId}
use Rattle.wb_term.specs.Terms.{Terms}
use Rattle.wb_term.specs.Values.{word_value}
use Rattle.wb_term.specs.Under.{HasOnly}
use Rattle.wb_term.specs.Growth.{Grown}
use Rattle.wb_fold.specs.Ram.{word_in, AreWords, WordsHaveOnly, stored}
use Rattle.wb_word.specs.declared.codes.Dst.{Dst}
use Rattle.wb_word.specs.declared.codes.Dst.TheVariants as dst
use Rattle.wb_machine.specs.State.{State}
use Rattle.wb_machine.specs.Next.{moved_ram}
use Rattle.wb_symstep.specs.declared.state.SymState.{SymState}
use Rattle.wb_symstep.specs.State.{IsSymState}
use Rattle.wb_symstep.specs.Parts.{IsPart, IsRamOf}
use Rattle.wb_symstep.proofs.Parts.{stood, state_had_only}

-- an entry of a list after a store
entry : (xs : List ℕ) (at v k : ℕ) → at < length xs → (if k == at then v else slice_index xs k) ≡ slice_index (slice_set xs at v) k
entry xs at v k within = by (cases_eq k at) where
  by : ((k ≡ at) ⊎ (k ≡ at → ⊥)) → (if k == at then v else slice_index xs k) ≡ slice_index (slice_set xs at v) k
  by (inl e) = ap (λ (b : Bool). if b then v else slice_index xs k) (eq-eqb k at e)
      ∙ sym (ap (slice_index (slice_set xs at v)) e ∙ get_or-set_same xs at v 0 within)
  by (inr ne) = ap (λ (b : Bool). if b then v else slice_index xs k) (ne_eqb k at ne)
      ∙ sym (get_or-set_other xs at k v 0 ne)

module _ (old new : Terms) (grown : Grown old new) (s : SymState) (is : IsSymState old s) where
  pub written : (ids : List WordId) (bus : WordId) (p : State → ℕ) → IsPart old s bus p → length ids ≡ 256
      → AreWords new ids (λ inputs k. stored inputs old s.ram s.dp bus k)
      → ((allowed : Node → Bool) → WordsHaveOnly old allowed s.ram → HasOnly old allowed s.dp.number → HasOnly old allowed bus.number → WordsHaveOnly new allowed ids)
      → IsRamOf new s ids (λ m. slice_set m.ram m.regs.dp (p m))
  written ids bus p h len are brings = record {
    len = len;
    there = record { there = λ k within. (are.word k within).there };
    value = λ i m st k within.
        let b = stood old new grown s is i m st in
        let at : word_value i old s.dp % 256 ≡ m.regs.dp = ap (λ (n : ℕ). n % 256) b.state.dp ∙ mod-eq_of_lt st.machine_in.regs_in.dp_in in
        (are.word k (subst (λ (n : ℕ). k < n) (sym len) within)).value i st.inputs_in
        ∙ ap (λ (n : ℕ). if k == n then word_value i old bus else word_value i old (word_in s.ram k)) at
        ∙ ap (λ (n : ℕ). if k == m.regs.dp then n else word_value i old (word_in s.ram k)) (h.value i m b)
        ∙ ap (λ (n : ℕ). if k == m.regs.dp then p m else n) (b.state.ram k within)
        ∙ entry m.ram m.regs.dp (p m) k (subst (λ (n : ℕ). m.regs.dp < n) (sym st.machine_in.ram_length) st.machine_in.regs_in.dp_in);
    only = λ allowed o. let had = state_had_only old new grown allowed s o in brings allowed had.ram had.dp (h.only allowed had);
  }

-- a RAM that no move writes
unmoved : (d : Dst) (bus dp : ℕ) (ram : List ℕ) → d ≢ dst.Mem → moved_ram d bus dp ram ≡ ram
unmoved dst.Mem bus dp ram h = absurd (h refl)
unmoved _ bus dp ram h = refl

pub ram_part : (g : Terms) (s : SymState) → IsSymState g s → IsRamOf g s s.ram (λ m. m.ram)
ram_part g s is = record { len = is.ram_length; there = is.ram; value = λ i m st. st.state.ram; only = λ allowed o. o.ram }

pub left : (g : Terms) (s : SymState) (d : Dst) (p : State → ℕ) → IsSymState g s → d ≢ dst.Mem → IsRamOf g s s.ram (λ m. moved_ram d (p m) m.regs.dp m.ram)
left g s d p is h = record {
  len = is.ram_length;
  there = is.ram;
  value = λ i m st k within. st.state.ram k within ∙ sym (ap (λ (xs : List ℕ). slice_index xs k) (unmoved d (p m) m.regs.dp m.ram h));
  only = λ allowed o. o.ram;
}
