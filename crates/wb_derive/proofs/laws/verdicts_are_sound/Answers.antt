use Rattle.wb_derive.proofs.Sound.{verdicts_are_sound}
use Rattle.wb_derive.proofs.laws.verdicts_are_sound.Goals as goal

pub returns : goal.returns
returns c = verdicts_are_sound
