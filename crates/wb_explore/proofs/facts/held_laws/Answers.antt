use Rattle.wb_explore.proofs.facts.held_laws.Goals as goal

pub returns : goal.returns
returns c = record {
  add_up = c.strides_add_up.ensures;
  resting_stay = c.resting_chips_stay.ensures;
  stopped_stay = c.stopped_chips_stay.ensures;
  others_step = c.other_strides_are_instructions.ensures;
  begin_so = c.strides_begin_with_an_instruction.ensures;
  one_walk = c.strides_are_one_walk.ensures;
  never_fall = c.ranks_never_fall.ensures;
  equal_ranks = c.equal_ranks_are_one_chip.ensures;
  in_pace = c.held_chips_stay_in_pace.ensures;
  ranks_rise = c.ranks_rise.ensures;
  passed_last = c.last_points_are_passed_after_all.ensures;
  passed_after = c.points_are_passed_after_accesses.ensures;
  points_go_on = c.points_go_on.ensures;
  one_request = c.requests_are_one.ensures;
  one_given = c.given_chips_are_one.ensures;
  last_given = c.last_access_is_given_at_a_request.ensures;
  first_fresh = c.first_requests_are_fresh.ensures;
  fresh_first = c.fresh_requests_are_first.ensures;
  on_the_way = c.requests_are_on_the_way.ensures;
  stop_where = c.held_runs_stop_before_or_after.ensures;
  stop_shorter = c.shorter_runs_stop_too.ensures;
  tells = c.points_tell_what_comes.ensures;
  in_range = c.striding_chips_stay_in_range.ensures;
}
