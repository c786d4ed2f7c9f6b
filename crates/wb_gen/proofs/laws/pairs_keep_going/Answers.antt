use Rattle.wb_gen.proofs.Keeping.{pairs_keep_going}
use Rattle.wb_gen.proofs.laws.pairs_keep_going.Goals as goal

pub returns : goal.returns
returns c =
    pairs_keep_going c.calm_words_keep_the_port.ensures c.raising_words_touch.ensures
    c.held_runs_stop_before_or_after.ensures
