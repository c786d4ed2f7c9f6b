-- Where a node stands in a forest.
use Rattle.std.proofs.Common.{◌≡◌, ℕ, ◌<◌, Bool, true, false, cond, List, Some, None, length, get_or, slice_get, nat_lt, refl, sym, ap, ◌∙◌, subst, arith}
use Rattle.std.proofs.lemmas.Option.{slice_get-get_or}
use Rattle.std.proofs.lemmas.List.Sums.{passes_at_first}
use Rattle.std.specs.List.{position, position_or_len}
use Rattle.wb_diagram.specs.declared.nodes.Node.{Node}
use Rattle.wb_diagram.proofs.Same.{node_eq, node_eq-same}

pub found_at : (n : Node) (ns : List Node) (k : ℕ) → position (node_eq n) ns ≡ Some k → slice_get ns k ≡ Some n
found_at n ns k h = by (nat_lt (position_or_len (node_eq n) ns) (length ns)) refl h where
  by : (b : Bool) → nat_lt (position_or_len (node_eq n) ns) (length ns) ≡ b → cond b (Some (position_or_len (node_eq n) ns)) None ≡ Some k → slice_get ns k ≡ Some n
  by true e h =
      let within : position_or_len (node_eq n) ns < length ns = grind arith in
      let first : position_or_len (node_eq n) ns ≡ k = cc in
      let same : n ≡ get_or ns (position_or_len (node_eq n) ns) n = node_eq-same n _ (passes_at_first (node_eq n) ns n within) in
      subst (λ (j : ℕ). slice_get ns j ≡ Some n) first (slice_get-get_or ns (position_or_len (node_eq n) ns) n within ∙ ap Some (sym same))
  by false e h = cc
