-- A RAM of 256 words of a graph, and the bits of an address.
use Rattle.std.specs.Prelude.{◌≡◌, ℕ, ◌+◌, ◌*◌, ◌%◌, ◌^◌, ◌<◌, ◌==◌, ◌&&◌, Bool, not, List, [], ◌∷◌, ◌++◌, if◌then◌else◌, length, slice_index_or}
use Rattle.wb_term.specs.declared.nodes.WordId.{WordId}
use Rattle.wb_term.specs.declared.nodes.BitId.{BitId}
use Rattle.wb_term.specs.declared.nodes.Node.{Node}
use Rattle.wb_term.specs.Inputs.{Assignment, IsAssignment}
use Rattle.wb_term.specs.Numbers.{bit}
use Rattle.wb_term.specs.Terms.{Terms, HasWord, HasBit}
use Rattle.wb_term.specs.Values.{IsWord, word_value, bit_value}
use Rattle.wb_term.specs.Under.{HasOnly}
use Rattle.wb_fold.specs.declared.address.AddressBit.{AddressBit}

-- the word of a place
abbrev pub word_in : List WordId → ℕ → WordId
word_in ids k = slice_index_or ids k (record { number = 0 })

-- every entry is a word of the graph
pub record HasWords (g : Terms) (ids : List WordId) : Type 0 where
  pub there : (k : ℕ) → k < length ids → HasWord g (word_in ids k)

-- every entry is a word of the graph that has a value under all inputs
pub record AreWords (g : Terms) (ids : List WordId) (meaning : Assignment → ℕ → ℕ) : Type 0 where
  pub word : (k : ℕ) → k < length ids → IsWord g (word_in ids k) (λ inputs. meaning inputs k)

-- only such input nodes stand under the entries
pub record WordsHaveOnly (g : Terms) (allowed : Node → Bool) (ids : List WordId) : Type 0 where
  pub only : (k : ℕ) → k < length ids → HasOnly g allowed (word_in ids k).number

-- the value of the entry at the low 8 bits of a word
abbrev pub selected : Assignment → Terms → List WordId → WordId → ℕ
selected inputs g ram dp = word_value inputs g (word_in ram (word_value inputs g dp % 256))

-- the value of an entry after a store at the low 8 bits of a word
abbrev pub stored : Assignment → Terms → List WordId → WordId → WordId → ℕ → ℕ
stored inputs g ram dp value k =
    if k == word_value inputs g dp % 256 then word_value inputs g value else word_value inputs g (word_in ram k)

-- the value of the entry of one list where a bit is set, else that of another
abbrev pub merged : Assignment → Terms → BitId → List WordId → List WordId → ℕ → ℕ
merged inputs g cond one other k =
    if bit_value inputs g cond then word_value inputs g (word_in one k) else word_value inputs g (word_in other k)

-- a bit of an address and its opposite
pub record IsAddressBit (g : Terms) (b : AddressBit) : Type 0 where
  pub set : HasBit g b.set
  pub clear : HasBit g b.clear
  pub opposite : (inputs : Assignment) → IsAssignment inputs → bit_value inputs g b.clear ≡ not (bit_value inputs g b.set)

-- the bits of an address, the highest first
abbrev pub AreAddressBits : Terms → List AddressBit → Type 0
AreAddressBits g [] = Unit {0}
AreAddressBits g (b ∷ bs) = IsAddressBit g b × AreAddressBits g bs

-- the number that they stand for
abbrev pub address : Assignment → Terms → List AddressBit → ℕ
address inputs g [] = 0
address inputs g (b ∷ bs) = bit (bit_value inputs g b.set) * 2 ^ length bs + address inputs g bs

-- only such input nodes stand under them
abbrev pub AddressHasOnly : Terms → (Node → Bool) → List AddressBit → Type 0
AddressHasOnly g allowed [] = Unit {0}
AddressHasOnly g allowed (b ∷ bs) = HasOnly g allowed b.set.number × HasOnly g allowed b.clear.number × AddressHasOnly g allowed bs

-- The value of an entry after a store that happens where a bit is set and the address bits stand for its place.
abbrev pub stored_where : Assignment → Terms → List WordId → List AddressBit → BitId → WordId → ℕ → ℕ
stored_where inputs g words bits here value k =
    if bit_value inputs g here && (k == address inputs g bits) then word_value inputs g value else word_value inputs g (word_in words k)

-- words after others, that are those of a list after such a store
pub record AppendsStored (old new : Terms) (words : List WordId) (bits : List AddressBit) (here : BitId) (value : WordId) (before after : List WordId) : Type 0 where
  pub cells : List WordId
  pub appended : after ≡ before ++ cells
  pub len : length cells ≡ length words
  pub are : AreWords new cells (λ inputs k. stored_where inputs old words bits here value k)
  pub inputs : (allowed : Node → Bool) → WordsHaveOnly old allowed words → AddressHasOnly old allowed bits →
      HasOnly old allowed here.number → HasOnly old allowed value.number → WordsHaveOnly new allowed cells
