use Rattle.std.proofs.Common.{◌≡◌, Bool, true, false, not, refl, sym, ◌∙◌, ap}
use Rattle.wb_gate.specs.Circuit.{xor}
use Rattle.wb_equal.specs.declared.entries.Entry.{Entry}
use Rattle.wb_equal.specs.Entries.{entry_value}
use Rattle.wb_equal.proofs.entries.xor.Goals as goal

xor_true : (b : Bool) → not b ≡ xor b true
xor_true true = refl
xor_true false = refl

pub returns-in-T-default-clause-means : goal.returns-in-T-default-clause-means
returns-in-T-default-clause-means c = record {
  there = c.negation.ensures.there _ c.requires.y_there;
  value = λ v o. c.negation.ensures.value v ∙ ap (λ (e : Entry). xor (entry_value v e) (entry_value v c.args.y)) (sym c.in-T-default.is-0);
}

pub returns-in_default-T-clause-means : goal.returns-in_default-T-clause-means
returns-in_default-T-clause-means c = record {
  there = c.negation-in_default-T.ensures.there _ c.requires.x_there;
  value = λ v o. c.negation-in_default-T.ensures.value v ∙ xor_true (entry_value v c.args.x)
      ∙ ap (λ (e : Entry). xor (entry_value v c.args.x) (entry_value v e)) (sym c.in_default-T.is-1);
}
