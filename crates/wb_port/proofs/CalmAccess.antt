-- No access of the host sets RQM.
use Rattle.std.proofs.Common.{◌≡◌, ℕ, ◌/◌, ◌%◌, Bool, true, false, arith}
use Rattle.std.proofs.lemmas.Bool.{eqb-true, eq-eqb}
use Rattle.wb_machine.specs.State.{State}
use Rattle.wb_port.specs.declared.accesses.Access.{Access}
use Rattle.wb_port.specs.declared.accesses.Access.TheVariants as access
use Rattle.wb_port.specs.Port.{rqm, accessed, after_read, after_write, transferred, drc, drs}

transferred_down : (single second : Bool) (sr : ℕ)
    → transferred single second sr / 32768 % 2 ≡ 1 → sr / 32768 % 2 ≡ 1
transferred_down true second sr on = omega arith
transferred_down false false sr on = omega arith
transferred_down false true sr on = omega arith

pub access_down : (a : Access) (m : State) → rqm (accessed a m) ≡ true → rqm m ≡ true
unfolding rqm after_read after_write
access_down access.Status m on = on
access_down access.Read m on =
    eq-eqb _ 1 (transferred_down (drc m) (drs m) m.regs.sr (eqb-true _ 1 on))
access_down (access.Write byte) m on =
    eq-eqb _ 1 (transferred_down (drc m) (drs m) m.regs.sr (eqb-true _ 1 on))
