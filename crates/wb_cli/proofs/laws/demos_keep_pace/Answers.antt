use Rattle.wb_cli.proofs.Demos.{demo_answers}
use Rattle.wb_cli.proofs.laws.demos_keep_pace.Goals as goal

pub returns : goal.returns
returns c = demo_answers (record {
  bodies = c.numbers_have_bodies.ensures;
  points = c.pairs_reach_few_points.ensures;
  going = c.pairs_keep_going.ensures;
  same = c.pairs_say_the_same.ensures;
})
