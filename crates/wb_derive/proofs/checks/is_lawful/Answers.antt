use Rattle.std.proofs.Common.{◌∙◌, sym, ap, vec_len}
use Rattle.wb_gate.specs.Circuit.{variables}
use Rattle.wb_gate.specs.Clauses.{clauses_of, names_only}
use Rattle.wb_derive.specs.Partial.{refute}
use Rattle.wb_derive.specs.Course.{known_from, partial_of, run}
use Rattle.wb_derive.proofs.Numbers.{names_covered}
use Rattle.wb_derive.proofs.Judging.{lawful_run}
use Rattle.wb_derive.proofs.checks.is_lawful.Goals as goal

pub refute-requires : goal.refute-requires
refute-requires c =
    let lits = c.lits-lits.result.now in
    names_covered (variables c.args.formula.now) (vec_len c.args.marks.now) lits c.names_only.result c.requires.covers
    (c.names_only.ensures ∙ ap (λ n. names_only n lits) c.variables.ensures) (c.names_only.ensures ∙ sym c.if-not-names_only.ensures)

pub returns-clause-value : goal.returns-clause-value
returns-clause-value c =
    let n = variables c.args.formula.now in
    let lits = c.lits-lits.result.now in
    let known = known_from (clauses_of c.args.formula.now) c.args.earlier.now in
    let q = partial_of c.refute.new.marks.items c.args.stamp in
    lawful_run n known c.args.step.now c.args.marks.now.items c.requires.fresh.0 c.args.stamp q c.follow.result c.requires.fresh.1 c.requires.fresh.2
    (sym (c.if-not-names_only.ensures ∙ ap (λ m. names_only m lits) c.variables.ensures ∙ ap (names_only n) c.lits-lits.ensures.lits))
    (c.refute.ensures.partial ∙ ap (λ ls. refute ls (partial_of c.args.marks.now.items c.args.stamp)) c.lits-lits.ensures.lits)
    (c.follow.ensures.value ∙ ap (λ hs. run known hs q) c.numbers.ensures)
