use Rattle.std.proofs.Common.{◌≡◌, List, ℕ, Option, Some, None, subst}
use Rattle.std.specs.declared.vec.Vec.{Vec}
use Rattle.std.proofs.Common.{Global}
use Rattle.wb_word.specs.Table.{IsTable}
use Rattle.wb_term.specs.Terms.{option_items}
use Rattle.wb_term.proofs.Push.{IsGraph-empty}
use Rattle.wb_term.proofs.graph.Graph.new.Goals as goal
use Rattle.wb_term.proofs.graph.Graph.new.Goals.{then-eq, else-eq}

none_kept : (o : Option (Vec ℕ Global)) (words : List ℕ) → o ≡ None → option_items o ≡ Some words → IsTable 1024 16 words
none_kept o words e h = let f : None ≡ Some words = (rw e at h) in cc

one_kept : (o : Option (Vec ℕ Global)) (v : Vec ℕ Global) (words : List ℕ) → o ≡ Some v → IsTable 1024 16 v.items → option_items o ≡ Some words → IsTable 1024 16 words
one_kept o v words e is h = let f : Some v.items ≡ Some words = (rw e at h) in let g : v.items ≡ words = cc in subst (IsTable 1024 16) g is

pub invariant_of-result : goal.invariant_of-result
invariant_of-result c =
    IsGraph-empty _ _ c.new.ensures.empty c.in_ok-first.ensures.table
    (λ words h. elim c.if-eq.branch [
      | then-eq w ↦ none_kept c.if-eq.second2 words w.second2-is h
      | else-eq w ↦ one_kept c.if-eq.second2 _ words w.second2-is c.in_ok-second.ensures.table h
    ])
