use Rattle.wb_vector.proofs.Moves.{picked_bit}
use Rattle.wb_vector.proofs.shifts.picked.Goals as goal

pub returns : goal.returns
returns c = record {
  there = c.requires.there c.args.at;
  value = λ v. picked_bit v c.args.diagrams.now c.args.x.now c.args.at c.told-x c.requires.at_in;
}
