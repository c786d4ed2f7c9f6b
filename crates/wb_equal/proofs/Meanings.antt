-- What the negation of an entry means.
use Rattle.std.proofs.Common.{◌≡◌, ℕ, Bool, not, ◌∙◌, ap}
use Rattle.wb_gate.specs.Circuit.{Circuit, Assignment}
use Rattle.wb_equal.specs.declared.entries.Entry.{Entry}
use Rattle.wb_equal.specs.Entries.{entry_value, EntryBelow, IsEntry}

pub IsEntry-not : (c : Circuit) (e n : Entry) (old new : Assignment → Bool) → IsEntry c e old →
    ((v : Assignment) → entry_value v n ≡ not (entry_value v e)) → ((k : ℕ) → EntryBelow k e → EntryBelow k n) →
    ((v : Assignment) → not (old v) ≡ new v) → IsEntry c n new
IsEntry-not c e n old new is value there same = record {
  there = there _ is.there;
  value = λ v o. value v ∙ ap not (is.value v o) ∙ same v;
}
