use Rattle.std.proofs.Common.{◌∙◌, ap, not, ◌&&◌, Bool}
use Rattle.wb_term.specs.Values.{bit_value}
use Rattle.wb_explore.proofs.Growth.{◌▸◌}
use Rattle.wb_explore.proofs.going.branches.Goals as goal

pub returns-in_err-other-clause-grown : goal.returns-in_err-other-clause-grown
returns-in_err-other-clause-grown c = c.mk_andb.ensures.grown ▸ c.mk_notb.ensures.grown

pub returns-in_err-second-clause-grown : goal.returns-in_err-second-clause-grown
returns-in_err-second-clause-grown c = c.mk_andb.ensures.grown ▸ c.mk_notb.ensures.grown ▸ c.mk_andb-2.ensures.grown

pub returns-clause-grown : goal.returns-clause-grown
returns-clause-grown c = c.mk_andb.ensures.grown ▸ c.mk_notb.ensures.grown ▸ c.mk_andb-2.ensures.grown

pub returns-clause-first : goal.returns-clause-first
returns-clause-first c =
    let later = c.mk_notb.ensures.grown ▸ c.mk_andb-2.ensures.grown in
    record {
      there = later.bits c.in_ok-first.first c.in_ok-first.ensures.value.there;
      value = λ i a. later.bit_values i c.in_ok-first.first c.in_ok-first.ensures.value.there ∙ c.in_ok-first.ensures.value.value i a;
    }

pub returns-clause-second : goal.returns-clause-second
returns-clause-second c =
    let before = c.mk_andb.ensures.grown ▸ c.mk_notb.ensures.grown in
    record {
      there = c.in_ok-second.ensures.value.there;
      value = λ i a.
          c.in_ok-second.ensures.value.value i a
          ∙ (ap (λ (b : Bool). b && bit_value i c.mk_notb.new.graph c.in_ok-other.other) (before.bit_values i c.args.here c.requires.here)
          ∙ ap (λ (b : Bool). bit_value i c.args.graph.now c.args.here && b) (c.in_ok-other.ensures.value.value i a ∙ ap not (c.mk_andb.ensures.grown.bit_values i c.args.cond c.requires.cond)));
    }

pub returns-clause-inputs : goal.returns-clause-inputs
returns-clause-inputs c =
    let later = c.mk_notb.ensures.grown ▸ c.mk_andb-2.ensures.grown in
    let before = c.mk_andb.ensures.grown ▸ c.mk_notb.ensures.grown in
    λ allowed here cond. (
      later.bit_inputs allowed c.in_ok-first.first c.in_ok-first.ensures.value.there (c.in_ok-first.ensures.inputs allowed (here, (cond, tt))),
      c.in_ok-second.ensures.inputs allowed (
        before.bit_inputs allowed c.args.here c.requires.here here,
        (c.in_ok-other.ensures.inputs allowed (c.mk_andb.ensures.grown.bit_inputs allowed c.args.cond c.requires.cond cond, tt), tt),
      ),
    )
