use Rattle.std.proofs.Common.{replicate}
use Rattle.wb_machine.specs.State.{reset}
use Rattle.wb_symstep.proofs.Starting.{zeros_are, zeros_only}
use Rattle.wb_symstep.proofs.state.SymState.reset.Goals as goal

pub returns-clause-state : goal.returns-clause-state
returns-clause-state c =
    let g = c.constants.new.graph in
    let zeros = zeros_are g c.in_ok-constants.constants c.in_ok-ram.ram c.in_ok-constants.ensures.are c.in_ok-ram.ensures.list in
    c.at_power.ensures.state g c.in_ok-constants.ensures.are zeros.0 zeros.1

pub returns-clause-stands : goal.returns-clause-stands
unfolding reset
returns-clause-stands c inputs ok =
    let g = c.constants.new.graph in
    let zeros = zeros_are g c.in_ok-constants.constants c.in_ok-ram.ram c.in_ok-constants.ensures.are c.in_ok-ram.ensures.list in
    c.at_power.ensures.stands g inputs (replicate 256 0) c.in_ok-constants.ensures.are ok (zeros.2 inputs ok)

pub returns-clause-inputs : goal.returns-clause-inputs
returns-clause-inputs c allowed =
    let g = c.constants.new.graph in
    c.at_power.ensures.inputs g allowed c.in_ok-constants.ensures.are
    (zeros_only g c.in_ok-constants.constants c.in_ok-ram.ram c.in_ok-constants.ensures.are c.in_ok-ram.ensures.list allowed)
