use Rattle.wb_gen.proofs.Agreeing.{pairs_say_the_same}
use Rattle.wb_gen.proofs.laws.pairs_say_the_same.Goals as goal

pub returns : goal.returns
returns c =
    pairs_say_the_same c.calm_words_keep_the_port.ensures c.raising_words_touch.ensures
    c.held_runs_stop_before_or_after.ensures c.requests_decide.ensures c.replies_decide.ensures
