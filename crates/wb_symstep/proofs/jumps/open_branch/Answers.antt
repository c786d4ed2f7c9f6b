use Rattle.wb_word.specs.declared.words.Instr.TheVariants.{Jp}
use Rattle.wb_symstep.proofs.Meanings.{from_one}
use Rattle.wb_symstep.proofs.States.{IsSymState-kept}
use Rattle.wb_symstep.proofs.Jumping.{known_decides, not_call, says_taken, unknown}
use Rattle.wb_symstep.proofs.jumps.open_branch.Goals as goal

pub returns-in-Some-clause-after : goal.returns-in-Some-clause-after
returns-in-Some-clause-after c =
    let g = c.condition.new.graph in
    let s = c.args.state.now in
    let is = IsSymState-kept c.args.graph.now g c.condition.ensures.grown s c.requires.state in
    from_one _ _ c.plain_branch.result
    (λ r h image spare. h g c.args.cond image spare (not_call c.args.cond c.requires.terms) is
    (known_decides g s c.args.cond c.in_ok-says.says c.bit_at.result c.in-Some.taken c.in_ok-says.ensures.part c.in-Some.ensures.some c.bit_at.ensures.value))
    c.plain_branch.ensures.after

pub returns-in-None-clause-after : goal.returns-in-None-clause-after
returns-in-None-clause-after c =
    let g = c.condition.new.graph in
    let s = c.args.state.now in
    let is = IsSymState-kept c.args.graph.now g c.condition.ensures.grown s c.requires.state in
    from_one _ _ c.fork.result
    (λ r h image spare. h g c.args.cond image spare (not_call c.args.cond c.requires.terms) is c.in_ok-says.ensures.part)
    c.fork.ensures.after

pub returns-in-None-clause-forks : goal.returns-in-None-clause-forks
returns-in-None-clause-forks c =
    let g = c.condition.new.graph in
    let s = c.args.state.now in
    let says = c.in_ok-says.says in
    from_one _ _ c.fork.result
    (λ r h spare. h g (Jp c.args.cond c.args.na spare) (
      c.requires.terms,
      says_taken g s c.args.cond says c.in_ok-says.ensures.part,
      unknown g says.number c.bit_at.result c.bit_at.ensures.node c.in-None.ensures.none,
    ))
    c.fork.ensures.forks
