-- What a state shows is what the machine shows for which it stands.
use Rattle.std.proofs.Common.{◌≡◌, ℕ, ◌/◌, ◌%◌, ◌==◌, Bool, true, false, ap, sym, ◌∙◌, arith}
use Rattle.wb_term.specs.Inputs.{Assignment}
use Rattle.wb_term.specs.Terms.{Terms}
use Rattle.wb_term.specs.Values.{word_value}
use Rattle.wb_machine.specs.State.{State}
use Rattle.wb_port.specs.NextPoint.{shown_of}
use Rattle.wb_port.specs.Port.{rqm, drs}
use Rattle.wb_symstep.specs.declared.state.SymState.{SymState}
use Rattle.wb_symstep.specs.State.{status, StandsFor}
use Rattle.wb_point.specs.Shows.{shows}

status_rqm : (r d : Bool) (w : ℕ) → (status r d w / 32768 % 2 == 1) ≡ r
status_rqm true true w = let e : status true true w / 32768 % 2 ≡ 1 = omega arith in ap (λ (n : ℕ). n == 1) e
status_rqm true false w = let e : status true false w / 32768 % 2 ≡ 1 = omega arith in ap (λ (n : ℕ). n == 1) e
status_rqm false true w = let e : status false true w / 32768 % 2 ≡ 0 = omega arith in ap (λ (n : ℕ). n == 1) e
status_rqm false false w = let e : status false false w / 32768 % 2 ≡ 0 = omega arith in ap (λ (n : ℕ). n == 1) e

status_drs : (r d : Bool) (w : ℕ) → (status r d w / 4096 % 2 == 1) ≡ d
status_drs true true w = let e : status true true w / 4096 % 2 ≡ 1 = omega arith in ap (λ (n : ℕ). n == 1) e
status_drs false true w = let e : status false true w / 4096 % 2 ≡ 1 = omega arith in ap (λ (n : ℕ). n == 1) e
status_drs true false w = let e : status true false w / 4096 % 2 ≡ 0 = omega arith in ap (λ (n : ℕ). n == 1) e
status_drs false false w = let e : status false false w / 4096 % 2 ≡ 0 = omega arith in ap (λ (n : ℕ). n == 1) e

pub shown_told : (inputs : Assignment) (g : Terms) (s : SymState) (m : State) → StandsFor inputs g s m → shows s ≡ shown_of m
unfolding rqm drs
shown_told inputs g s m st =
    let pc = st.pc in
    let sp = st.sp in
    let stack = st.stack in
    let request : s.rqm ≡ rqm m = sym (status_rqm s.rqm s.drs (word_value inputs g s.sr)) ∙ ap (λ (n : ℕ). n / 32768 % 2 == 1) st.sr in
    let second : s.drs ≡ drs m = sym (status_drs s.rqm s.drs (word_value inputs g s.sr)) ∙ ap (λ (n : ℕ). n / 4096 % 2 == 1) st.sr in
    cc
