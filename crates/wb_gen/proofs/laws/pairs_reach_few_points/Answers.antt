use Rattle.wb_gen.proofs.Reaching.{pairs_reach_few_points}
use Rattle.wb_gen.proofs.laws.pairs_reach_few_points.Goals as goal

pub returns : goal.returns
returns c =
    pairs_reach_few_points c.calm_words_keep_the_port.ensures c.raising_words_touch.ensures c.fronts_fit.ensures
    c.points_are_passed_after_accesses.ensures c.lists_bound_points_of_a_side.ensures c.bounds_of_sides_add_up.ensures
