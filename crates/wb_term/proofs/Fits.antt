-- Every value is a word of 16 bits.
use Rattle.std.proofs.Common.{◌≡◌, ℕ, ◌%◌, ◌^◌, ◌<◌, ◌≤◌, zero, suc, Bool, true, false, cond, ℤ, pos, negsuc, List, Option, Some, None, length, get_or, refl, arith, inl, inr, lit<}
use Rattle.std.proofs.lemmas.Nat.{and_le_l, or_lt, xor_lt, mod_below, div_below, shr_le}
use Rattle.std.proofs.lemmas.List.{get_or_past}
use Rattle.std.proofs.lemmas.Option.{slice_get_cases}
use Rattle.std.specs.Int.{int_rem_euclid}
use Rattle.std.specs.Prelude.{unsigned_abs}
use Rattle.std.proofs.lemmas.Bool.{cases_lt}
use Rattle.wb_word.specs.Table.{IsTable}
use Rattle.wb_term.specs.declared.nodes.Table.{Table}
use Rattle.wb_term.specs.declared.nodes.Table.TheVariants.{First, Second}
use Rattle.wb_term.specs.declared.nodes.WordNode.TheVariants.{Const, Byte, Cell, Not, And, Or, Xor, Sum, Diff, Ite, Shl, Shr, High, Low, Look}
use Rattle.wb_term.specs.declared.nodes.Node.{Node}
use Rattle.wb_term.specs.declared.nodes.Node.TheVariants.{Word, Bit}
use Rattle.wb_term.specs.Nodes.{children, Each}
use Rattle.wb_term.specs.Numbers.{bit, product}
use Rattle.wb_term.specs.Inputs.{Assignment, IsAssignment}
use Rattle.wb_term.specs.Terms.{Terms, IsGraph, IsPlaced, words_of, table_words, first_of}
use Rattle.wb_term.specs.Values.{node_value, values, value}
use Rattle.wb_term.proofs.Placed.{Each-map, children_below}
use Rattle.wb_term.proofs.Values.{value-at, length-values}

remainder-lt : (z : ℤ) → unsigned_abs (int_rem_euclid z (pos (2 ^ 32))) < 2 ^ 32
remainder-lt (pos a) = mod_below a (2 ^ 32) (lit< tt)
remainder-lt (negsuc a) = omega arith

pub product-lt : (x y : ℕ) → product x y < 2 ^ 32
unfolding product
product-lt x y = remainder-lt _

cut-lt : (n : ℕ) → n % 65536 < 65536
cut-lt n = mod_below n 65536 (lit< tt)

cond-lt : (b : Bool) (x y : ℕ) → x < 65536 → y < 65536 → cond b x y < 65536
cond-lt true x y h k = h
cond-lt false x y h k = k

bit-lt : (b : Bool) → bit b < 65536
bit-lt true = lit< tt
bit-lt false = lit< tt

word-lt : (words : List ℕ) → IsTable 1024 16 words → (k : ℕ) → get_or words k 0 < 65536
word-lt words is k = elim (cases_lt k 1024) [
  | inl within ↦ is.each k within
  | inr past ↦ rw (get_or_past words k 0 (omega (arith, is.len))) (lit< tt)
]

words-lt : (o : Option (List ℕ)) → ((words : List ℕ) → o ≡ Some words → IsTable 1024 16 words) → (k : ℕ) → get_or (words_of o) k 0 < 65536
words-lt None h k = lit< tt
words-lt (Some words) h k = word-lt words (h words refl) k

table-lt : (g : Terms) → IsGraph g → (t : Table) (k : ℕ) → get_or (table_words g.tables t) k 0 < 65536
table-lt g is First k = word-lt g.tables.first is.first k
table-lt g is Second k = words-lt g.tables.second is.second k

node_value-lt : (g h : Terms) → IsGraph g → (i : Assignment) → IsAssignment i → (f : ℕ → ℕ) (n : Node) → IsPlaced h n →
    Each (λ c. f c < 65536) (children n) → node_value g.tables i f n < 65536
node_value-lt g h is i a f (Word (Const v)) p e = p
node_value-lt g h is i a f (Word (Byte place)) p e = let b = a.bytes place in omega (arith, b)
node_value-lt g h is i a f (Word (Cell place)) p e = a.cells place
node_value-lt g h is i a f (Word (Not x)) p e = omega arith
node_value-lt g h is i a f (Word (And x y)) p e = let l = and_le_l (f x.number) (f y.number) in omega (arith, l, e.0)
node_value-lt g h is i a f (Word (Or x y)) p e = or_lt 16 (f x.number) (f y.number) e.0 e.1.0
node_value-lt g h is i a f (Word (Xor x y)) p e = xor_lt 16 (f x.number) (f y.number) e.0 e.1.0
node_value-lt g h is i a f (Word (Sum x y c)) p e = cut-lt _
node_value-lt g h is i a f (Word (Diff x y c)) p e = cut-lt _
node_value-lt g h is i a f (Word (Ite c x y)) p e = cond-lt _ _ _ e.1.0 e.1.1.0
node_value-lt g h is i a f (Word (Shl x m)) p e = cut-lt _
node_value-lt g h is i a f (Word (Shr x m)) p e = let l = shr_le (f x.number) m in omega (arith, l, e.0)
node_value-lt g h is i a f (Word (High x y)) p e = div_below _ 65536 65536 (lit< tt) (product-lt (f x.number) (f y.number))
node_value-lt g h is i a f (Word (Low x y)) p e = cut-lt _
node_value-lt g h is i a f (Word (Look t x)) p e = table-lt g is t _
node_value-lt g h is i a f (Bit n) p e = bit-lt _

past_zero : (g : Terms) (i : Assignment) (k : ℕ) → length g.nodes ≤ k → value i g k < 65536
unfolding value
past_zero g i k h = rw (get_or_past (values g.tables i g.nodes) k 0 (omega (arith, length-values g.tables i g.nodes))) (lit< tt)

value_below : (g : Terms) → IsGraph g → (i : Assignment) → IsAssignment i → (m k : ℕ) → k < m → value i g k < 65536
value_below g is i a zero k h = absurd (omega arith)
value_below g is i a (suc m) k h = elim (slice_get_cases g.nodes k).1 [
  | inl here ↦
      let n = here.0 in
      let placed = is.placed k n here.2 in
      let below = children_below g k n placed in
      rw (value-at i g k n here.2 below)
      (node_value-lt g (first_of k g) is i a (value i g) n placed
      (Each-map _ _ (λ c l. value_below g is i a m c (omega (arith, l, h))) (children n) below))
  | inr past ↦ past_zero g i k past.0
]

-- every node's value is a word
pub value-lt : (g : Terms) → IsGraph g → (i : Assignment) → IsAssignment i → (k : ℕ) → value i g k < 65536
value-lt g is i a k = value_below g is i a (suc k) k (omega arith)
