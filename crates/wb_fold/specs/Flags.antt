-- The flags of an accumulator as six bits of a graph.
use Rattle.std.specs.Prelude.{◌≡◌, ℕ, List, [], ◌∷◌}
use Rattle.wb_alu.specs.declared.flags.Flags.{Flags}
use Rattle.wb_term.specs.Inputs.{Assignment, IsAssignment}
use Rattle.wb_term.specs.Terms.{Terms, HasBit}
use Rattle.wb_term.specs.Values.{bit_value}
use Rattle.wb_fold.specs.declared.flags.SymFlags.{SymFlags}

-- the flags that the bits stand for
abbrev pub flags_value : Assignment → Terms → SymFlags → Flags
flags_value inputs g f = record {
  c = bit_value inputs g f.c;
  z = bit_value inputs g f.z;
  s0 = bit_value inputs g f.s0;
  s1 = bit_value inputs g f.s1;
  ov0 = bit_value inputs g f.ov0;
  ov1 = bit_value inputs g f.ov1;
}

-- all six are in the graph
pub record HasFlags (g : Terms) (f : SymFlags) : Type 0 where
  pub c : HasBit g f.c
  pub z : HasBit g f.z
  pub s0 : HasBit g f.s0
  pub s1 : HasBit g f.s1
  pub ov0 : HasBit g f.ov0
  pub ov1 : HasBit g f.ov1

-- six bits of the graph that stand for flags under all inputs
pub record IsFlags (g : Terms) (f : SymFlags) (meaning : Assignment → Flags) : Type 0 where
  pub there : HasFlags g f
  pub value : (inputs : Assignment) → IsAssignment inputs → flags_value inputs g f ≡ meaning inputs

-- their numbers
abbrev pub flag_numbers : SymFlags → List ℕ
flag_numbers f = f.c.number ∷ f.z.number ∷ f.s0.number ∷ f.s1.number ∷ f.ov0.number ∷ f.ov1.number ∷ []
