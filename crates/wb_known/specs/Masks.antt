-- The bits that a word can have.
use Rattle.std.specs.Prelude.{◌≡◌, ℕ, bit_and}
use Rattle.wb_term.specs.declared.nodes.WordId.{WordId}
use Rattle.wb_term.specs.Inputs.{Assignment, IsAssignment}
use Rattle.wb_term.specs.Terms.{Terms}
use Rattle.wb_term.specs.Values.{word_value}

-- a mask leaves the word as it is, whatever the inputs are
abbrev pub Keeps : Terms → WordId → ℕ → Type 0
Keeps g x mask = (inputs : Assignment) → IsAssignment inputs → bit_and (word_value inputs g x) mask ≡ word_value inputs g x

-- a mask leaves nothing of the word, whatever the inputs are
abbrev pub Clears : Terms → WordId → ℕ → Type 0
Clears g x mask = (inputs : Assignment) → IsAssignment inputs → bit_and (word_value inputs g x) mask ≡ 0

-- two words share no bit, whatever the inputs are
abbrev pub AreApart : Terms → WordId → WordId → Type 0
AreApart g x y = (inputs : Assignment) → IsAssignment inputs → bit_and (word_value inputs g x) (word_value inputs g y) ≡ 0
