use Rattle.wb_symstep.proofs.Starting.{start_is, start_only, start_stands}
use Rattle.wb_symstep.proofs.starts.at_power.Goals as goal

pub returns-clause-state : goal.returns-clause-state
returns-clause-state c g are = start_is g c.args.constants are c.args.ram

pub returns-clause-stands : goal.returns-clause-stands
returns-clause-stands c g inputs words are = start_stands g c.args.constants are inputs words c.args.ram

pub returns-clause-inputs : goal.returns-clause-inputs
returns-clause-inputs c g allowed are = start_only g c.args.constants are allowed c.args.ram
