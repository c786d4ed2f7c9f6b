use Rattle.std.proofs.Common.{Some, [], ap, sym, ◌∙◌}
use Rattle.wb_term.specs.Inputs.{Assignment}
use Rattle.wb_explore.specs.Plans.{is_chosen}
use Rattle.wb_explore.proofs.Growth.{◌▸◌}
use Rattle.wb_explore.proofs.starts.start_entry.Goals as goal

pub returns-clause-start : goal.returns-clause-start
returns-clause-start c =
    let s = c.states_stay.ensures c.start_state.new.graph c.mk_known.new.graph c.mk_known.ensures.grown in
    let old = c.in_ok-state.ensures in
    let state = c.in_ok-state.state in
    record {
      key = c.requires.key;
      rank = c.rank_at-rank.ensures;
      state = s.there state old.state;
      cond = c.in_ok-cond.ensures.value.there;
      state_inputs = s.only (is_chosen [] c.args.plan.now.power) state old.state old.inputs;
      cond_inputs = c.in_ok-cond.ensures.inputs (is_chosen [] c.args.plan.now.power) tt;
      holds = λ i a. c.in_ok-cond.ensures.value.value i a;
      stands = λ i a. s.stands i state _ old.state (old.stands i a);
      shows = λ i m t. sym c.shown-shows.ensures.value ∙ c.shown-shows.ensures.stands i c.mk_known.new.graph m t;
      witness = ap (λ (w : Assignment). Some w) c.requires.inputs;
    }

pub returns-in_err-cond-clause-grown : goal.returns-in_err-cond-clause-grown
returns-in_err-cond-clause-grown c = c.start_state.ensures.grown ▸ c.mk_known.ensures.grown

pub returns-clause-grown : goal.returns-clause-grown
returns-clause-grown c = c.start_state.ensures.grown ▸ c.mk_known.ensures.grown
