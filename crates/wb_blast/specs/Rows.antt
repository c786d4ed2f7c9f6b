-- The circuits of the nodes that are done. No public clause cites this.
use Rattle.std.specs.Prelude.{◌≡◌, ◌==◌, ℕ, ◌-◌, ◌<◌, Bool, List, [], Some, length, slice_get, slice_index, slice_index_or}
use Rattle.wb_gate.specs.Circuit.{Circuit, Assignment, variables, Obeys}
use Rattle.wb_term.specs.declared.nodes.BitId.{BitId}
use Rattle.wb_term.specs.declared.nodes.WordNode.{WordNode}
use Rattle.wb_term.specs.declared.nodes.WordNode.TheVariants.{Const, Byte, Cell, Not, And, Or, Xor, Sum, Diff, Ite, Shl, Shr, High, Low, Look}
use Rattle.wb_term.specs.declared.nodes.BitNode.{BitNode}
use Rattle.wb_term.specs.declared.nodes.BitNode.TheVariants.{Known, Pick, NotB, AndB, OrB, XorB, IteB, Same, Carry, Borrow}
use Rattle.wb_term.specs.Inputs.{Assignment as Inputs, IsAssignment}
use Rattle.wb_term.specs.Terms.{Terms}
use Rattle.wb_term.specs.Values.{value}
use Rattle.wb_equal.specs.declared.entries.Entry.{Entry}
use Rattle.wb_blast.specs.declared.places.Place.{Place}
use Rattle.wb_blast.specs.declared.rows.Rows.{Rows}
use Rattle.wb_equal.specs.Entries.{entry_value, EntryBelow}
use Rattle.wb_blast.specs.Meeting.{IsMet}
use Rattle.wb_blast.specs.Places.{GivesInputs}
use Rattle.wb_blast.specs.Words.{number, entry_at, AreBelow}

-- the entries are of the circuit, and stand for this word under the gate values of all inputs
pub record IsWordOf (c : Circuit) (places : List Place) (es : List Entry) (meaning : Inputs → ℕ) : Type 0 where
  pub there : AreBelow (variables c) es
  pub value : (i : Inputs) (v : Assignment) → IsAssignment i → GivesInputs v places i → Obeys v c → number v es ≡ meaning i

-- the entry is of the circuit, and has this value under the gate values of all inputs
pub record IsBitOf (c : Circuit) (places : List Place) (e : Entry) (meaning : Inputs → Bool) : Type 0 where
  pub there : EntryBelow (variables c) e
  pub value : (i : Inputs) (v : Assignment) → IsAssignment i → GivesInputs v places i → Obeys v c → entry_value v e ≡ meaning i

-- the entries of a word node, and the entry of a bit node
abbrev pub word_row : Rows → ℕ → List Entry
word_row r k = slice_index_or r.words.items (slice_index r.slots k - 1) []

abbrev pub bit_row : Rows → ℕ → Entry
bit_row r k = entry_at r.bits.items (slice_index r.slots k - 1)

-- the word node of a number is done
pub record HasWordRow (g : Terms) (c : Circuit) (r : Rows) (k : ℕ) : Type 0 where
  pub covered : k < length r.slots
  pub done : IsMet r.slots k
  pub within : slice_index r.slots k - 1 < length r.words.items
  pub is : IsWordOf c r.places.items (word_row r k) (λ i. value i g k)

-- the bit node of a number is done
pub record HasBitRow (g : Terms) (c : Circuit) (r : Rows) (k : ℕ) : Type 0 where
  pub covered : k < length r.slots
  pub done : IsMet r.slots k
  pub within : slice_index r.slots k - 1 < length r.bits.items
  pub is : IsBitOf c r.places.items (bit_row r k) (λ i. value i g k == 1)

-- the children of a node are done
abbrev pub HasWordParts : Terms → Circuit → Rows → WordNode → Type 0
HasWordParts g c r (Const v) = Unit {0}
HasWordParts g c r (Byte place) = Unit {0}
HasWordParts g c r (Cell place) = Unit {0}
HasWordParts g c r (Not x) = HasWordRow g c r x.number
HasWordParts g c r (And x y) = HasWordRow g c r x.number × HasWordRow g c r y.number
HasWordParts g c r (Or x y) = HasWordRow g c r x.number × HasWordRow g c r y.number
HasWordParts g c r (Xor x y) = HasWordRow g c r x.number × HasWordRow g c r y.number
HasWordParts g c r (Sum x y b) = HasWordRow g c r x.number × HasWordRow g c r y.number × HasBitRow g c r b.number
HasWordParts g c r (Diff x y b) = HasWordRow g c r x.number × HasWordRow g c r y.number × HasBitRow g c r b.number
HasWordParts g c r (Ite b x y) = HasBitRow g c r b.number × HasWordRow g c r x.number × HasWordRow g c r y.number
HasWordParts g c r (Shl x m) = HasWordRow g c r x.number
HasWordParts g c r (Shr x m) = HasWordRow g c r x.number
HasWordParts g c r (High x y) = HasWordRow g c r x.number × HasWordRow g c r y.number
HasWordParts g c r (Low x y) = HasWordRow g c r x.number × HasWordRow g c r y.number
HasWordParts g c r (Look t x) = HasWordRow g c r x.number

abbrev pub HasBitParts : Terms → Circuit → Rows → BitNode → Type 0
HasBitParts g c r (Known v) = Unit {0}
HasBitParts g c r (Pick x m) = HasWordRow g c r x.number
HasBitParts g c r (NotB b) = HasBitRow g c r b.number
HasBitParts g c r (AndB b d) = HasBitRow g c r b.number × HasBitRow g c r d.number
HasBitParts g c r (OrB b d) = HasBitRow g c r b.number × HasBitRow g c r d.number
HasBitParts g c r (XorB b d) = HasBitRow g c r b.number × HasBitRow g c r d.number
HasBitParts g c r (IteB b d e) = HasBitRow g c r b.number × HasBitRow g c r d.number × HasBitRow g c r e.number
HasBitParts g c r (Same x y) = HasWordRow g c r x.number × HasWordRow g c r y.number
HasBitParts g c r (Carry x y b) = HasWordRow g c r x.number × HasWordRow g c r y.number × HasBitRow g c r b.number
HasBitParts g c r (Borrow x y b) = HasWordRow g c r x.number × HasWordRow g c r y.number × HasBitRow g c r b.number

-- each bit of a list has a row
pub record HasBitRows (r : Rows) (bits : List BitId) : Type 0 where
  pub covered : (k : ℕ) (bit : BitId) → slice_get bits k ≡ Some bit → bit.number < length r.slots
  pub done : (k : ℕ) (bit : BitId) → slice_get bits k ≡ Some bit → IsMet r.slots bit.number
  pub within : (k : ℕ) (bit : BitId) → slice_get bits k ≡ Some bit → slice_index r.slots bit.number - 1 < length r.bits.items

-- the entries are those of the bits' rows
pub record AreBitRows (r : Rows) (bits : List BitId) (entries : List Entry) : Type 0 where
  pub counted : length entries ≡ length bits
  pub same : (k : ℕ) (bit : BitId) → slice_get bits k ≡ Some bit → entry_at entries k ≡ bit_row r bit.number
