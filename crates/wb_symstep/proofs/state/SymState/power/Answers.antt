use Rattle.std.proofs.Common.{◌∙◌}
use Rattle.wb_symstep.proofs.Growth.{◌▸◌}
use Rattle.wb_symstep.proofs.Starting.{cells_are, cells_only}
use Rattle.wb_symstep.proofs.state.SymState.power.Goals as goal

pub returns-clause-state : goal.returns-clause-state
returns-clause-state c =
    let cells = cells_are c.cells.new.graph c.constants.new.graph c.constants.ensures.grown c.in_ok-words.words.items c.in_ok-ram.ram
    c.in_ok-words.ensures.len c.in_ok-words.ensures.value (c.in_ok-ram.ensures.list ∙ c.deref.ensures.value) in
    c.at_power.ensures.state c.constants.new.graph c.in_ok-constants.ensures.are cells.0 cells.1

pub returns-clause-stands : goal.returns-clause-stands
returns-clause-stands c inputs ok =
    let cells = cells_are c.cells.new.graph c.constants.new.graph c.constants.ensures.grown c.in_ok-words.words.items c.in_ok-ram.ram
    c.in_ok-words.ensures.len c.in_ok-words.ensures.value (c.in_ok-ram.ensures.list ∙ c.deref.ensures.value) in
    c.at_power.ensures.stands c.constants.new.graph inputs inputs.cells c.in_ok-constants.ensures.are ok (cells.2 inputs ok)

pub returns-clause-inputs : goal.returns-clause-inputs
returns-clause-inputs c allowed allows =
    c.at_power.ensures.inputs c.constants.new.graph allowed c.in_ok-constants.ensures.are
    (cells_only c.cells.new.graph c.constants.new.graph c.constants.ensures.grown c.in_ok-words.words.items c.in_ok-ram.ram
    c.in_ok-words.ensures.value (c.in_ok-ram.ensures.list ∙ c.deref.ensures.value) allowed (c.in_ok-words.ensures.inputs allowed allows))

pub returns-clause-grown : goal.returns-clause-grown
returns-clause-grown c = c.cells.ensures.grown ▸ c.constants.ensures.grown
