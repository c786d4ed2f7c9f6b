use Rattle.wb_compare.proofs.facts.run_laws.Goals as goal

pub returns : goal.returns
returns c = record {
  fronts = c.fronts_fit.ensures;
  always_fit = c.status_reads_always_fit.ensures;
  left = c.transfers_are_left.ensures;
  joins = c.transfers_join_in_order.ensures;
  course = c.runs_follow_their_course.ensures;
  stop_where = c.held_runs_stop_before_or_after.ensures;
  stop_shorter = c.shorter_runs_stop_too.ensures;
  stop_status = c.status_reads_stop_nothing.ensures;
  last_given = c.last_access_is_given_at_a_request.ensures;
  last_reply = c.last_reply_is_given_at_a_request.ensures;
  on_the_way = c.requests_are_on_the_way.ensures;
  first_fresh = c.first_requests_are_fresh.ensures;
  passed_after = c.points_are_passed_after_accesses.ensures;
  passed_last = c.last_points_are_passed_after_all.ensures;
  faithful = c.obedient_schedules_are_faithful.ensures;
  replies_decide = c.replies_decide.ensures;
  requests_decide = c.requests_decide.ensures;
  reached = c.lists_bound_reached_points.ensures;
  come_back = c.talks_come_back.ensures;
  of_kinds = c.dialogues_are_of_their_kinds.ensures;
  at_end = c.dialogues_grow_at_the_end.ensures;
}
