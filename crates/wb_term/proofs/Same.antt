-- The derived `==` of nodes tells equal nodes apart from others.
use Rattle.std.proofs.Common.{◌≡◌, Bool, true, true≢false, sym, arith, rules}
use Rattle.std.proofs.lemmas.Grind.{common_steps}
use Rattle.wb_term.specs.declared.nodes.WordNode.TheVariants.{Const, Byte, Cell, Not, And, Or, Xor, Sum, Diff, Ite, Shl, Shr, High, Low, Look}
use Rattle.wb_term.specs.declared.nodes.BitNode.TheVariants.{Known, Pick, NotB, AndB, OrB, XorB, IteB, Same, Carry, Borrow}
use Rattle.wb_term.specs.declared.nodes.Node.{Node}
use Rattle.wb_term.specs.declared.nodes.Node.TheVariants.{Word, Bit}
use Rattle.wb_term.specs.contracts.nodes.NodePartialEq.TheImpl.{ghosts}

abbrev pub node_eq : Node → Node → Bool
node_eq = ghosts.eq

pub node_eq-self : (n : Node) → node_eq n n ≡ true
node_eq-self _ = search rules

pub node_eq-same : (a b : Node) → node_eq a b ≡ true → a ≡ b
node_eq-same (Word (Const v)) (Word (Const v2)) h = grind (arith, common_steps)
node_eq-same (Word (Byte p)) (Word (Byte p2)) h = grind (arith, common_steps)
node_eq-same (Word (Cell p)) (Word (Cell p2)) h = grind (arith, common_steps)
node_eq-same (Word (Not x)) (Word (Not x2)) h = grind (arith, common_steps)
node_eq-same (Word (And x y)) (Word (And x2 y2)) h = grind (arith, common_steps)
node_eq-same (Word (Or x y)) (Word (Or x2 y2)) h = grind (arith, common_steps)
node_eq-same (Word (Xor x y)) (Word (Xor x2 y2)) h = grind (arith, common_steps)
node_eq-same (Word (Sum x y c)) (Word (Sum x2 y2 c2)) h = grind (arith, common_steps)
node_eq-same (Word (Diff x y c)) (Word (Diff x2 y2 c2)) h = grind (arith, common_steps)
node_eq-same (Word (Ite c x y)) (Word (Ite c2 x2 y2)) h = grind (arith, common_steps)
node_eq-same (Word (Shl x m)) (Word (Shl x2 m2)) h = grind (arith, common_steps)
node_eq-same (Word (Shr x m)) (Word (Shr x2 m2)) h = grind (arith, common_steps)
node_eq-same (Word (High x y)) (Word (High x2 y2)) h = grind (arith, common_steps)
node_eq-same (Word (Low x y)) (Word (Low x2 y2)) h = grind (arith, common_steps)
node_eq-same (Word (Look t x)) (Word (Look t2 x2)) h = grind (arith, common_steps)
node_eq-same (Bit (Known v)) (Bit (Known v2)) h = grind (arith, common_steps)
node_eq-same (Bit (Pick x m)) (Bit (Pick x2 m2)) h = grind (arith, common_steps)
node_eq-same (Bit (NotB c)) (Bit (NotB c2)) h = grind (arith, common_steps)
node_eq-same (Bit (AndB c d)) (Bit (AndB c2 d2)) h = grind (arith, common_steps)
node_eq-same (Bit (OrB c d)) (Bit (OrB c2 d2)) h = grind (arith, common_steps)
node_eq-same (Bit (XorB c d)) (Bit (XorB c2 d2)) h = grind (arith, common_steps)
node_eq-same (Bit (IteB c d e)) (Bit (IteB c2 d2 e2)) h = grind (arith, common_steps)
node_eq-same (Bit (Same x y)) (Bit (Same x2 y2)) h = grind (arith, common_steps)
node_eq-same (Bit (Carry x y c)) (Bit (Carry x2 y2 c2)) h = grind (arith, common_steps)
node_eq-same (Bit (Borrow x y c)) (Bit (Borrow x2 y2 c2)) h = grind (arith, common_steps)
node_eq-same _ _ h = absurd (true≢false (sym h))
