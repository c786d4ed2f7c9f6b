-- What a graph holds, and what is true of every graph.
use Rattle.std.specs.Prelude.{◌≡◌, ℕ, ◌^◌, ◌<◌, ◌≤◌, Bool, true, false, List, [], Some, None, Option, length, slice_get, take, is_some, cond}
use Rattle.std.specs.declared.vec.Vec.{Vec}
use Rattle.wb_word.specs.Table.{IsTable}
use Rattle.wb_word.specs.declared.sides.Side.{Side}
use Rattle.wb_word.specs.declared.sides.Side.TheVariants.{A, B}
use Rattle.wb_term.specs.declared.nodes.WordId.{WordId}
use Rattle.wb_term.specs.declared.nodes.BitId.{BitId}
use Rattle.wb_term.specs.declared.nodes.Table.{Table}
use Rattle.wb_term.specs.declared.nodes.Table.TheVariants.{First, Second}
use Rattle.wb_term.specs.declared.nodes.WordNode.{WordNode}
use Rattle.wb_term.specs.declared.nodes.WordNode.TheVariants.{Const, Byte, Cell, Not, And, Or, Xor, Sum, Diff, Ite, Shl, Shr, High, Low, Look}
use Rattle.wb_term.specs.declared.nodes.BitNode.{BitNode}
use Rattle.wb_term.specs.declared.nodes.BitNode.TheVariants.{Known, Pick, NotB, AndB, OrB, XorB, IteB, Same, Carry, Borrow}
use Rattle.wb_term.specs.declared.nodes.Node.{Node}
use Rattle.wb_term.specs.declared.nodes.Node.TheVariants.{Word, Bit}

-- one or two data tables
pub record Tables : Type 0 where
  pub first : List ℕ
  pub second : Option (List ℕ)

-- the nodes, each at the place of its number, and the data tables that they read
pub record Terms : Type 0 where
  pub nodes : List Node
  pub tables : Tables

-- the list in a vector, where there is one
abbrev pub option_items : {Z : Type 0} → Option (Vec ℕ Z) → Option (List ℕ)
option_items None = None
option_items (Some v) = Some v.items

abbrev pub words_of : Option (List ℕ) → List ℕ
words_of None = []
words_of (Some words) = words

-- the words of a table
abbrev pub table_words : Tables → Table → List ℕ
table_words tables First = tables.first
table_words tables Second = words_of tables.second

-- the table is there
abbrev pub IsKept : Tables → Table → Type 0
IsKept tables First = Unit {0}
IsKept tables Second = is_some tables.second ≡ true

-- the table of one of the two machines
abbrev pub table_of : Tables → Side → Table
table_of tables A = First
table_of tables B = cond (is_some tables.second) Second First

abbrev pub holds_word : Option Node → Bool
holds_word (Some (Word n)) = true
holds_word _ = false

abbrev pub holds_bit : Option Node → Bool
holds_bit (Some (Bit n)) = true
holds_bit _ = false

-- the number is that of a word node
abbrev pub HasWord : Terms → WordId → Type 0
HasWord g x = holds_word (slice_get g.nodes x.number) ≡ true

-- the number is that of a bit node
abbrev pub HasBit : Terms → BitId → Type 0
HasBit g c = holds_bit (slice_get g.nodes c.number) ≡ true

-- the children are there, and places, shifts and tables are in their ranges
abbrev pub IsWordPlaced : Terms → WordNode → Type 0
IsWordPlaced g (Const v) = v < 65536
IsWordPlaced g (Byte place) = place < 16
IsWordPlaced g (Cell place) = place < 256
IsWordPlaced g (Not x) = HasWord g x
IsWordPlaced g (And x y) = HasWord g x × HasWord g y
IsWordPlaced g (Or x y) = HasWord g x × HasWord g y
IsWordPlaced g (Xor x y) = HasWord g x × HasWord g y
IsWordPlaced g (Sum x y c) = HasWord g x × HasWord g y × HasBit g c
IsWordPlaced g (Diff x y c) = HasWord g x × HasWord g y × HasBit g c
IsWordPlaced g (Ite c x y) = HasBit g c × HasWord g x × HasWord g y
IsWordPlaced g (Shl x m) = HasWord g x × (m < 16)
IsWordPlaced g (Shr x m) = HasWord g x × (m < 16)
IsWordPlaced g (High x y) = HasWord g x × HasWord g y
IsWordPlaced g (Low x y) = HasWord g x × HasWord g y
IsWordPlaced g (Look t x) = IsKept g.tables t × HasWord g x

abbrev pub IsBitPlaced : Terms → BitNode → Type 0
IsBitPlaced g (Known v) = Unit {0}
IsBitPlaced g (Pick x m) = HasWord g x × (m < 16)
IsBitPlaced g (NotB c) = HasBit g c
IsBitPlaced g (AndB c d) = HasBit g c × HasBit g d
IsBitPlaced g (OrB c d) = HasBit g c × HasBit g d
IsBitPlaced g (XorB c d) = HasBit g c × HasBit g d
IsBitPlaced g (IteB c d e) = HasBit g c × HasBit g d × HasBit g e
IsBitPlaced g (Same x y) = HasWord g x × HasWord g y
IsBitPlaced g (Carry x y c) = HasWord g x × HasWord g y × HasBit g c
IsBitPlaced g (Borrow x y c) = HasWord g x × HasWord g y × HasBit g c

abbrev pub IsPlaced : Terms → Node → Type 0
IsPlaced g (Word n) = IsWordPlaced g n
IsPlaced g (Bit n) = IsBitPlaced g n

-- the graph with the first `k` nodes alone
abbrev pub first_of : ℕ → Terms → Terms
first_of k g = record { nodes = take k g.nodes; tables = g.tables }

-- Each node's children have smaller numbers and the right sort, no node stands twice, at most 2 ^ 31 nodes are
-- there, and a data table has 1024 words.
pub record IsGraph (g : Terms) : Type 0 where
  pub placed : (k : ℕ) (n : Node) → slice_get g.nodes k ≡ Some n → IsPlaced (first_of k g) n
  pub once : (j k : ℕ) (n : Node) → slice_get g.nodes j ≡ Some n → slice_get g.nodes k ≡ Some n → j ≡ k
  pub fits : length g.nodes ≤ 2 ^ 31
  pub first : IsTable 1024 16 g.tables.first
  pub second : (words : List ℕ) → g.tables.second ≡ Some words → IsTable 1024 16 words
