-- Where a bit of a word comes from.
use Rattle.std.specs.Prelude.{ℕ, ◌<◌, Bool, not, List, [], ◌∷◌}
use Rattle.std.specs.Bool.{beq}
use Rattle.wb_term.specs.Inputs.{Assignment}
use Rattle.wb_term.specs.Terms.{Terms, HasWord, HasBit}
use Rattle.wb_term.specs.Values.{word_value, bit_value}
use Rattle.wb_known.specs.Bits.{bit_of}
use Rattle.wb_known.specs.declared.sources.Source.{Source}
use Rattle.wb_known.specs.declared.sources.Source.TheVariants.{Fixed, Place, Condition}

-- the value, turned over where that is said
abbrev pub source_value : Assignment → Terms → Source → Bool
source_value inputs g (Fixed v) = v
source_value inputs g (Place x m turned) = not (beq (bit_of (word_value inputs g x) m) turned)
source_value inputs g (Condition c turned) = not (beq (bit_value inputs g c) turned)

abbrev pub IsSource : Terms → Source → Type 0
IsSource g (Fixed v) = Unit {0}
IsSource g (Place x m turned) = HasWord g x × (m < 16)
IsSource g (Condition c turned) = HasBit g c

-- the numbers that it stands on
abbrev pub source_numbers : Source → List ℕ
source_numbers (Fixed v) = []
source_numbers (Place x m turned) = x.number ∷ []
source_numbers (Condition c turned) = c.number ∷ []
