use Rattle.wb_point.proofs.Normal.{talk_comes_back}
use Rattle.wb_point.proofs.laws.talks_come_back.Goals as goal

pub returns : goal.returns
returns c = talk_comes_back
