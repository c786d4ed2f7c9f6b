-- The terms of a symbolic state as lists of words and of bits.
use Rattle.std.specs.Prelude.{ℕ, ◌<◌, Bool, List, [], ◌∷◌, if◌then◌else◌, length, slice_index_or}
use Rattle.wb_term.specs.declared.nodes.WordId.{WordId}
use Rattle.wb_term.specs.declared.nodes.BitId.{BitId}
use Rattle.wb_term.specs.declared.nodes.Node.{Node}
use Rattle.wb_term.specs.Inputs.{Assignment}
use Rattle.wb_term.specs.Terms.{Terms, HasBit}
use Rattle.wb_term.specs.Values.{IsBit, bit_value}
use Rattle.wb_term.specs.Under.{HasOnly}
use Rattle.wb_fold.specs.Ram.{word_in}
use Rattle.wb_port.specs.declared.points.Shown.{Shown}
use Rattle.wb_symstep.specs.declared.state.SymState.{SymState}

-- the bit of a place
abbrev pub bit_in : List BitId → ℕ → BitId
bit_in ids k = slice_index_or ids k (record { number = 0 })

-- every entry is a bit of the graph
pub record HasBits (g : Terms) (ids : List BitId) : Type 0 where
  pub there : (k : ℕ) → k < length ids → HasBit g (bit_in ids k)

-- every entry is a bit of the graph that has a value under all inputs
pub record AreBits (g : Terms) (ids : List BitId) (meaning : Assignment → ℕ → Bool) : Type 0 where
  pub bit : (k : ℕ) → k < length ids → IsBit g (bit_in ids k) (λ inputs. meaning inputs k)

-- only such input nodes stand under the entries
pub record BitsHaveOnly (g : Terms) (allowed : Node → Bool) (ids : List BitId) : Type 0 where
  pub only : (k : ℕ) → k < length ids → HasOnly g allowed (bit_in ids k).number

-- the value of an entry of the one list where a bit is set, else of the other
abbrev pub merged_bit : Assignment → Terms → BitId → List BitId → List BitId → ℕ → Bool
merged_bit inputs g c one other k =
    if bit_value inputs g c then bit_value inputs g (bit_in one k) else bit_value inputs g (bit_in other k)

-- the registers of a state that are terms
abbrev pub word_list : SymState → List WordId
word_list s =
    s.rp ∷ s.dp ∷ s.a ∷ s.b ∷ s.tr ∷ s.trb ∷ s.k ∷ s.l ∷ s.dr ∷ s.sr ∷ s.so ∷ []

-- the flags of both accumulators
abbrev pub bit_list : SymState → List BitId
bit_list s =
    s.flags_a.c ∷ s.flags_a.z ∷ s.flags_a.s0 ∷ s.flags_a.s1 ∷ s.flags_a.ov0 ∷ s.flags_a.ov1
    ∷ s.flags_b.c ∷ s.flags_b.z ∷ s.flags_b.s0 ∷ s.flags_b.s1 ∷ s.flags_b.ov0 ∷ s.flags_b.ov1 ∷ []

-- the state with these concrete parts and terms
abbrev pub state_of : Shown → List WordId → List BitId → List WordId → SymState
state_of p words bits ram = record {
  pc = p.pc;
  sp = p.sp;
  stack = p.stack;
  rqm = p.rqm;
  drs = p.drs;
  rp = word_in words 0;
  dp = word_in words 1;
  a = word_in words 2;
  b = word_in words 3;
  tr = word_in words 4;
  trb = word_in words 5;
  k = word_in words 6;
  l = word_in words 7;
  dr = word_in words 8;
  sr = word_in words 9;
  so = word_in words 10;
  flags_a = record {
    c = bit_in bits 0;
    z = bit_in bits 1;
    s0 = bit_in bits 2;
    s1 = bit_in bits 3;
    ov0 = bit_in bits 4;
    ov1 = bit_in bits 5;
  };
  flags_b = record {
    c = bit_in bits 6;
    z = bit_in bits 7;
    s0 = bit_in bits 8;
    s1 = bit_in bits 9;
    ov0 = bit_in bits 10;
    ov1 = bit_in bits 11;
  };
  ram = ram;
}
