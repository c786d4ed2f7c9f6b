use Rattle.wb_law.proofs.facts.port_facts.Goals as goal

pub returns : goal.returns
returns c = record {
  calm_commutes = c.calm_words_commute.ensures;
  calm_keeps = c.calm_words_keep_the_port.ensures;
  only_raised = c.only_raising_words_request.ensures;
  raised_stands = c.raising_words_request.ensures;
  raising_touches = c.raising_words_touch.ensures;
  poll_raises_nothing = c.polls_raise_nothing.ensures;
  poll_follows = c.polls_follow_polls.ensures;
  gate_near = c.gates_are_near.ensures;
  comes_nearer = c.places_come_nearer.ensures;
  test_at_gate = c.tests_are_gates.ensures;
  one_gate = c.loops_have_one_gate.ensures;
  idle_moves = c.idle_instructions_move_alone.ensures;
  access_raises_nothing = c.accesses_raise_nothing.ensures;
}
