-- The children, the weight and the kind of a node.
use Rattle.std.specs.Prelude.{◌≡◌, ℕ, Bool, true, false, List, [], ◌∷◌, ◌⊎◌}
use Rattle.wb_term.specs.declared.nodes.WordNode.{WordNode}
use Rattle.wb_term.specs.declared.nodes.WordNode.TheVariants.{Const, Byte, Cell, Not, And, Or, Xor, Sum, Diff, Ite, Shl, Shr, High, Low, Look}
use Rattle.wb_term.specs.declared.nodes.BitNode.{BitNode}
use Rattle.wb_term.specs.declared.nodes.BitNode.TheVariants.{Known, Pick, NotB, AndB, OrB, XorB, IteB, Same, Carry, Borrow}
use Rattle.wb_term.specs.declared.nodes.Node.{Node}
use Rattle.wb_term.specs.declared.nodes.Node.TheVariants.{Word, Bit}

-- the numbers of a word node's children
abbrev pub word_children : WordNode → List ℕ
word_children (Const v) = []
word_children (Byte place) = []
word_children (Cell place) = []
word_children (Not x) = x.number ∷ []
word_children (And x y) = x.number ∷ y.number ∷ []
word_children (Or x y) = x.number ∷ y.number ∷ []
word_children (Xor x y) = x.number ∷ y.number ∷ []
word_children (Sum x y c) = x.number ∷ y.number ∷ c.number ∷ []
word_children (Diff x y c) = x.number ∷ y.number ∷ c.number ∷ []
word_children (Ite c x y) = c.number ∷ x.number ∷ y.number ∷ []
word_children (Shl x m) = x.number ∷ []
word_children (Shr x m) = x.number ∷ []
word_children (High x y) = x.number ∷ y.number ∷ []
word_children (Low x y) = x.number ∷ y.number ∷ []
word_children (Look t x) = x.number ∷ []

-- the numbers of a bit node's children
abbrev pub bit_children : BitNode → List ℕ
bit_children (Known v) = []
bit_children (Pick x m) = x.number ∷ []
bit_children (NotB c) = c.number ∷ []
bit_children (AndB c d) = c.number ∷ d.number ∷ []
bit_children (OrB c d) = c.number ∷ d.number ∷ []
bit_children (XorB c d) = c.number ∷ d.number ∷ []
bit_children (IteB c d e) = c.number ∷ d.number ∷ e.number ∷ []
bit_children (Same x y) = x.number ∷ y.number ∷ []
bit_children (Carry x y c) = x.number ∷ y.number ∷ c.number ∷ []
bit_children (Borrow x y c) = x.number ∷ y.number ∷ c.number ∷ []

-- the numbers of a node's children
abbrev pub children : Node → List ℕ
children (Word n) = word_children n
children (Bit n) = bit_children n

-- one of the numbers of a list
abbrev pub IsAmong : ℕ → List ℕ → Type 0
IsAmong c [] = ⊥
IsAmong c (k ∷ ks) = (c ≡ k) ⊎ IsAmong c ks

-- what holds of each number of a list
abbrev pub Each : (ℕ → Type 0) → List ℕ → Type 0
Each P [] = Unit {0}
Each P (k ∷ ks) = P k × Each P ks

-- a byte of the inputs or a word of the RAM's start
abbrev pub is_input : Node → Bool
is_input (Word (Byte place)) = true
is_input (Word (Cell place)) = true
is_input n = false

-- how many gates stand for a word node
abbrev pub word_weight : WordNode → ℕ
word_weight (And x y) = 16
word_weight (Or x y) = 16
word_weight (Xor x y) = 16
word_weight (Ite c x y) = 16
word_weight (Sum x y c) = 48
word_weight (Diff x y c) = 48
word_weight (High x y) = 4096
word_weight (Low x y) = 4096
word_weight (Look t x) = 32768
word_weight n = 0

-- how many gates stand for a bit node
abbrev pub bit_weight : BitNode → ℕ
bit_weight (AndB c d) = 1
bit_weight (OrB c d) = 1
bit_weight (XorB c d) = 1
bit_weight (IteB c d e) = 1
bit_weight (Same x y) = 32
bit_weight (Carry x y c) = 32
bit_weight (Borrow x y c) = 32
bit_weight n = 0

-- how many gates stand for a node
abbrev pub weight : Node → ℕ
weight (Word n) = word_weight n
weight (Bit n) = bit_weight n
