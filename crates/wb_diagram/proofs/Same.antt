-- The derived `==` of nodes tells equal nodes apart from others.
use Rattle.std.proofs.Common.{◌≡◌, Bool, true, true≢false, sym, arith, rules}
use Rattle.std.proofs.lemmas.Grind.{common_steps}
use Rattle.wb_diagram.specs.declared.nodes.Node.{Node}
use Rattle.wb_diagram.specs.declared.nodes.Node.TheVariants.{Leaf, Split}
use Rattle.wb_diagram.specs.contracts.nodes.NodePartialEq.TheImpl.{ghosts}

abbrev pub node_eq : Node → Node → Bool
node_eq = ghosts.eq

pub node_eq-self : (n : Node) → node_eq n n ≡ true
node_eq-self _ = search rules

pub node_eq-same : (a b : Node) → node_eq a b ≡ true → a ≡ b
node_eq-same (Leaf b) (Leaf b2) h = grind (arith, common_steps)
node_eq-same (Split x l r) (Split x2 l2 r2) h = grind (arith, common_steps)
node_eq-same _ _ h = absurd (true≢false (sym h))
