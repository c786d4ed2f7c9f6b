use Rattle.std.proofs.Common.{List, sym, subst}
use Rattle.wb_term.specs.declared.nodes.WordId.{WordId}
use Rattle.wb_machine.specs.Next.{moved_ram}
use Rattle.wb_symstep.specs.Parts.{IsRamOf}
use Rattle.wb_symstep.proofs.States.{IsSymState-kept}
use Rattle.wb_symstep.proofs.Storing.{left}
use Rattle.wb_symstep.proofs.moves.memory_read.Goals as goal

pub returns-clause-ram : goal.returns-clause-ram
returns-clause-ram c p =
    subst (λ (ids : List WordId). IsRamOf c.factors.new.graph c.args.state.now ids (λ m. moved_ram c.args.dst (p m) m.regs.dp m.ram))
    (sym c.in_ok-ram.ensures.list)
    (left c.factors.new.graph c.args.state.now c.args.dst p
    (IsSymState-kept c.args.graph.now c.factors.new.graph c.factors.ensures.grown c.args.state.now c.requires.state) c.requires.read)
