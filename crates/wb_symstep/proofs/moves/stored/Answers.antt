use Rattle.wb_symstep.proofs.Storing.{written}
use Rattle.wb_symstep.proofs.moves.stored.Goals as goal

pub returns-clause-ram : goal.returns-clause-ram
returns-clause-ram c p h =
    written c.args.graph.now c.pages_store.new.graph c.pages_store.ensures.grown c.args.state.now c.requires.state
    c.pages_store.new.ram c.args.bus p h c.pages_store.ensures.len.1
    (rw c.in_ok-ram.ensures.list at c.in_ok-pages_store.ensures.value)
    (rw c.in_ok-ram.ensures.list at c.in_ok-pages_store.ensures.inputs)
