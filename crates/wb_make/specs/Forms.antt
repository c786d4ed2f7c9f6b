-- What a constructor decides on: an older node, or one of a kind, which it then makes.
use Rattle.std.specs.Prelude.{◌≡◌, ℕ, Bool, false, List, [], ◌∷◌}
use Rattle.wb_term.specs.declared.nodes.Node.TheVariants.{Word}
use Rattle.wb_term.specs.Nodes.{is_input, word_children, bit_children, word_weight, bit_weight}
use Rattle.wb_term.specs.Inputs.{Assignment, IsAssignment}
use Rattle.wb_term.specs.Terms.{Terms, HasWord, HasBit, IsWordPlaced, IsBitPlaced}
use Rattle.wb_term.specs.Values.{word_value, bit_value, word_node_value, bit_node_value}
use Rattle.wb_make.specs.declared.forms.WordForm.{WordForm}
use Rattle.wb_make.specs.declared.forms.WordForm.TheVariants.{Old as OldWord, New as NewWord}
use Rattle.wb_make.specs.declared.forms.BitForm.{BitForm}
use Rattle.wb_make.specs.declared.forms.BitForm.TheVariants.{Old as OldBit, New as NewBit}

-- the value that the node has, or will have
abbrev pub word_form_value : Assignment → Terms → WordForm → ℕ
word_form_value inputs g (OldWord id) = word_value inputs g id
word_form_value inputs g (NewWord n) = word_node_value g.tables inputs (word_value inputs g) (bit_value inputs g) n

abbrev pub bit_form_value : Assignment → Terms → BitForm → Bool
bit_form_value inputs g (OldBit id) = bit_value inputs g id
bit_form_value inputs g (NewBit n) = bit_node_value (word_value inputs g) (bit_value inputs g) n

-- The older node is there; the new one may stand in the graph, and is no input node.
abbrev pub IsWordReady : Terms → WordForm → Type 0
IsWordReady g (OldWord id) = HasWord g id
IsWordReady g (NewWord n) = IsWordPlaced g n × (is_input (Word n) ≡ false)

abbrev pub IsBitReady : Terms → BitForm → Type 0
IsBitReady g (OldBit id) = HasBit g id
IsBitReady g (NewBit n) = IsBitPlaced g n

-- the numbers that it stands on
abbrev pub word_form_numbers : WordForm → List ℕ
word_form_numbers (OldWord id) = id.number ∷ []
word_form_numbers (NewWord n) = word_children n

abbrev pub bit_form_numbers : BitForm → List ℕ
bit_form_numbers (OldBit id) = id.number ∷ []
bit_form_numbers (NewBit n) = bit_children n

-- the gates that it may add
abbrev pub word_form_weight : WordForm → ℕ
word_form_weight (OldWord id) = 0
word_form_weight (NewWord n) = word_weight n

abbrev pub bit_form_weight : BitForm → ℕ
bit_form_weight (OldBit id) = 0
bit_form_weight (NewBit n) = bit_weight n

-- the value under all inputs
abbrev pub WordMeans : Terms → WordForm → (Assignment → ℕ) → Type 0
WordMeans g form meaning = (inputs : Assignment) → IsAssignment inputs → word_form_value inputs g form ≡ meaning inputs

abbrev pub BitMeans : Terms → BitForm → (Assignment → Bool) → Type 0
BitMeans g form meaning = (inputs : Assignment) → IsAssignment inputs → bit_form_value inputs g form ≡ meaning inputs
