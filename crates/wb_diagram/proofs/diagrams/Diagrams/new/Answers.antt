use Rattle.std.proofs.Common.{List, sym, subst}
use Rattle.wb_diagram.specs.declared.memo.Entry.{Entry}
use Rattle.wb_diagram.specs.Choices.{IsMemo}
use Rattle.wb_diagram.proofs.Remembered.{IsMemo-empty, IsEntry-leaf}
use Rattle.wb_diagram.proofs.diagrams.Diagrams.new.Goals as goal

pub invariant_of-result : goal.invariant_of-result
invariant_of-result c =
    let items = c.in_ok-memo.ensures.items_if_clones_equal (λ y e. e) in
    subst (λ (es : List Entry). IsMemo c.in_ok-store.store es) (sym items)
    (IsMemo-empty c.in_ok-store.store c.args.places _ c.requires.places (IsEntry-leaf c.in_ok-store.store c.leaf-leaf.result c.leaf-leaf.ensures.leaf))
