-- The value of each node under inputs: that of its kind, of the values of its children, whose numbers are smaller.
use Rattle.std.specs.Prelude.{◌≡◌, ℕ, ◌+◌, ◌-◌, ◌*◌, ◌/◌, ◌%◌, ◌^◌, ◌<◌, Bool, not, ◌&&◌, ◌||◌, ◌==◌, if◌then◌else◌, nat_lt, bit_and, bit_or, bit_xor, List, [], ◌∷◌, ◌++◌, fold, length, slice_index}
use Rattle.std.specs.Bool.{beq}
use Rattle.wb_term.specs.declared.nodes.WordId.{WordId}
use Rattle.wb_term.specs.declared.nodes.BitId.{BitId}
use Rattle.wb_term.specs.declared.nodes.WordNode.{WordNode}
use Rattle.wb_term.specs.declared.nodes.WordNode.TheVariants.{Const, Byte, Cell, Not, And, Or, Xor, Sum, Diff, Ite, Shl, Shr, High, Low, Look}
use Rattle.wb_term.specs.declared.nodes.BitNode.{BitNode}
use Rattle.wb_term.specs.declared.nodes.BitNode.TheVariants.{Known, Pick, NotB, AndB, OrB, XorB, IteB, Same, Carry, Borrow}
use Rattle.wb_term.specs.declared.nodes.Node.{Node}
use Rattle.wb_term.specs.declared.nodes.Node.TheVariants.{Word, Bit}
use Rattle.wb_term.specs.Nodes.{Each}
use Rattle.wb_term.specs.Inputs.{Assignment, IsAssignment}
use Rattle.wb_term.specs.Numbers.{bit, cut, less, product}
use Rattle.wb_term.specs.Terms.{Tables, Terms, table_words, HasWord, HasBit}

-- the value of a word node, where `word` and `is_set` give the values of its children
abbrev pub word_node_value : Tables → Assignment → (WordId → ℕ) → (BitId → Bool) → WordNode → ℕ
word_node_value tables inputs word is_set (Const v) = v
word_node_value tables inputs word is_set (Byte place) = slice_index inputs.bytes place
word_node_value tables inputs word is_set (Cell place) = slice_index inputs.cells place
word_node_value tables inputs word is_set (Not x) = 65535 - word x
word_node_value tables inputs word is_set (And x y) = bit_and (word x) (word y)
word_node_value tables inputs word is_set (Or x y) = bit_or (word x) (word y)
word_node_value tables inputs word is_set (Xor x y) = bit_xor (word x) (word y)
word_node_value tables inputs word is_set (Sum x y c) = cut (word x + word y + bit (is_set c))
word_node_value tables inputs word is_set (Diff x y c) = less (word x) (word y + bit (is_set c))
word_node_value tables inputs word is_set (Ite c x y) = if is_set c then word x else word y
word_node_value tables inputs word is_set (Shl x m) = cut (word x * 2 ^ m)
word_node_value tables inputs word is_set (Shr x m) = word x / 2 ^ m
word_node_value tables inputs word is_set (High x y) = product (word x) (word y) / 65536
word_node_value tables inputs word is_set (Low x y) = product (word x) (word y) % 65536
word_node_value tables inputs word is_set (Look t x) = slice_index (table_words tables t) (word x % 1024)

-- the value of a bit node, where `word` and `is_set` give the values of its children
abbrev pub bit_node_value : (WordId → ℕ) → (BitId → Bool) → BitNode → Bool
bit_node_value word is_set (Known v) = v
bit_node_value word is_set (Pick x m) = word x / 2 ^ m % 2 == 1
bit_node_value word is_set (NotB c) = not (is_set c)
bit_node_value word is_set (AndB c d) = is_set c && is_set d
bit_node_value word is_set (OrB c d) = is_set c || is_set d
bit_node_value word is_set (XorB c d) = not (beq (is_set c) (is_set d))
bit_node_value word is_set (IteB c d e) = if is_set c then is_set d else is_set e
bit_node_value word is_set (Same x y) = word x == word y
bit_node_value word is_set (Carry x y c) = nat_lt 65535 (word x + word y + bit (is_set c))
bit_node_value word is_set (Borrow x y c) = nat_lt (word x) (word y + bit (is_set c))

-- the value of a node as a number, a bit being 0 or 1, where `of` gives the values by number
abbrev pub node_value : Tables → Assignment → (ℕ → ℕ) → Node → ℕ
node_value tables inputs of (Word n) = word_node_value tables inputs (λ x. of x.number) (λ c. of c.number == 1) n
node_value tables inputs of (Bit n) = bit (bit_node_value (λ x. of x.number) (λ c. of c.number == 1) n)

-- the values of a list's nodes after those that are done, in order of number
abbrev pub with_value : Tables → Assignment → List ℕ → Node → List ℕ
with_value tables inputs done n = done ++ node_value tables inputs (slice_index done) n ∷ []

unfoldable pub values : Tables → Assignment → List Node → List ℕ
values tables inputs nodes = fold (with_value tables inputs) [] nodes

-- the value of the node of a number
unfoldable pub value : Assignment → Terms → ℕ → ℕ
value inputs g k = slice_index (values g.tables inputs g.nodes) k

abbrev pub word_value : Assignment → Terms → WordId → ℕ
word_value inputs g x = value inputs g x.number

abbrev pub bit_value : Assignment → Terms → BitId → Bool
bit_value inputs g c = value inputs g c.number == 1

-- The slots of these nodes are there and hold words. A bit is the word 0 or 1.
abbrev pub AreWords : List ℕ → List ℕ → Type 0
AreWords slots ks = Each (λ k. (k < length slots) × (slice_index slots k < 65536)) ks

-- a word node of the graph that has a value under all inputs
pub record IsWord (g : Terms) (id : WordId) (meaning : Assignment → ℕ) : Type 0 where
  pub there : HasWord g id
  pub value : (inputs : Assignment) → IsAssignment inputs → word_value inputs g id ≡ meaning inputs

-- a bit node of the graph that has a value under all inputs
pub record IsBit (g : Terms) (id : BitId) (meaning : Assignment → Bool) : Type 0 where
  pub there : HasBit g id
  pub value : (inputs : Assignment) → IsAssignment inputs → bit_value inputs g id ≡ meaning inputs
