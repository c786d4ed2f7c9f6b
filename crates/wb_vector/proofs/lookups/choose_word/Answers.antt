use Rattle.std.proofs.Common.{sym}
use Rattle.wb_vector.proofs.Looks.{same_words, chosen_same}
use Rattle.wb_vector.proofs.lookups.choose_word.Goals as goal

pub returns-then-eq-clause-means : goal.returns-then-eq-clause-means
returns-then-eq-clause-means c = record {
  there = c.requires.yes;
  value = λ v. chosen_same v c.args.diagrams.now c.args.condition c.args.yes.now c.args.no.now (same_words c.args.yes.now c.args.no.now (sym c.if-eq.ensures));
}
