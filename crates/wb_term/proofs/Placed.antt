-- Nodes that are placed: their children are below, and stay there when the graph grows.
use Rattle.std.proofs.Common.{◌≡◌, ℕ, ◌<◌, zero, suc, Bool, true, false, true≢false, List, [], ◌∷◌, Option, None, length, slice_get, take, refl, sym, ◌∙◌, subst, arith, inl, inr}
use Rattle.std.proofs.lemmas.List.{length-take}
use Rattle.wb_term.specs.declared.nodes.WordId.{WordId}
use Rattle.wb_term.specs.declared.nodes.BitId.{BitId}
use Rattle.wb_term.specs.declared.nodes.WordNode.TheVariants.{Const, Byte, Cell, Not, And, Or, Xor, Sum, Diff, Ite, Shl, Shr, High, Low, Look}
use Rattle.wb_term.specs.declared.nodes.BitNode.TheVariants.{Known, Pick, NotB, AndB, OrB, XorB, IteB, Same, Carry, Borrow}
use Rattle.wb_term.specs.declared.nodes.Node.{Node}
use Rattle.wb_term.specs.declared.nodes.Node.TheVariants.{Word, Bit}
use Rattle.wb_term.specs.Nodes.{children, Each, IsAmong}
use Rattle.wb_term.specs.Terms.{Terms, Tables, HasWord, HasBit, IsPlaced, IsKept, first_of, holds_word, holds_bit}

-- what is there, and which tables are kept, also in another graph
pub record Keeps (g h : Terms) : Type 0 where
  pub words : (x : WordId) → HasWord g x → HasWord h x
  pub bits : (c : BitId) → HasBit g c → HasBit h c
  pub tables : h.tables ≡ g.tables

pub IsPlaced-kept : (g h : Terms) → Keeps g h → (n : Node) → IsPlaced g n → IsPlaced h n
IsPlaced-kept g h k (Word (Const v)) p = p
IsPlaced-kept g h k (Word (Byte place)) p = p
IsPlaced-kept g h k (Word (Cell place)) p = p
IsPlaced-kept g h k (Word (Not x)) p = k.words x p
IsPlaced-kept g h k (Word (And x y)) p = (k.words x p.0, k.words y p.1)
IsPlaced-kept g h k (Word (Or x y)) p = (k.words x p.0, k.words y p.1)
IsPlaced-kept g h k (Word (Xor x y)) p = (k.words x p.0, k.words y p.1)
IsPlaced-kept g h k (Word (Sum x y c)) p = (k.words x p.0, k.words y p.1, k.bits c p.2)
IsPlaced-kept g h k (Word (Diff x y c)) p = (k.words x p.0, k.words y p.1, k.bits c p.2)
IsPlaced-kept g h k (Word (Ite c x y)) p = (k.bits c p.0, k.words x p.1, k.words y p.2)
IsPlaced-kept g h k (Word (Shl x m)) p = (k.words x p.0, p.1)
IsPlaced-kept g h k (Word (Shr x m)) p = (k.words x p.0, p.1)
IsPlaced-kept g h k (Word (High x y)) p = (k.words x p.0, k.words y p.1)
IsPlaced-kept g h k (Word (Low x y)) p = (k.words x p.0, k.words y p.1)
IsPlaced-kept g h k (Word (Look t x)) p = (subst (λ (tables : Tables). IsKept tables t) (sym k.tables) p.0, k.words x p.1)
IsPlaced-kept g h k (Bit (Known v)) p = p
IsPlaced-kept g h k (Bit (Pick x m)) p = (k.words x p.0, p.1)
IsPlaced-kept g h k (Bit (NotB c)) p = k.bits c p
IsPlaced-kept g h k (Bit (AndB c d)) p = (k.bits c p.0, k.bits d p.1)
IsPlaced-kept g h k (Bit (OrB c d)) p = (k.bits c p.0, k.bits d p.1)
IsPlaced-kept g h k (Bit (XorB c d)) p = (k.bits c p.0, k.bits d p.1)
IsPlaced-kept g h k (Bit (IteB c d e)) p = (k.bits c p.0, k.bits d p.1, k.bits e p.2)
IsPlaced-kept g h k (Bit (Same x y)) p = (k.words x p.0, k.words y p.1)
IsPlaced-kept g h k (Bit (Carry x y c)) p = (k.words x p.0, k.words y p.1, k.bits c p.2)
IsPlaced-kept g h k (Bit (Borrow x y c)) p = (k.words x p.0, k.words y p.1, k.bits c p.2)

-- what stands in the first part of a list stands in the list
pub slice_get_in_take : (p : Option Node → Bool) → p None ≡ false → (ns : List Node) (k j : ℕ) → p (slice_get (take k ns) j) ≡ true → p (slice_get ns j) ≡ true
slice_get_in_take p none [] zero j h = h
slice_get_in_take p none [] (suc k) j h = h
slice_get_in_take p none (x ∷ xs) zero j h = absurd (true≢false (sym h ∙ none))
slice_get_in_take p none (x ∷ xs) (suc k) zero h = h
slice_get_in_take p none (x ∷ xs) (suc k) (suc j) h = slice_get_in_take p none xs k j h

pub first_of-kept : (g : Terms) (k : ℕ) → Keeps (first_of k g) g
first_of-kept g k = record {
  words = λ x h. slice_get_in_take holds_word refl g.nodes k x.number h;
  bits = λ c h. slice_get_in_take holds_bit refl g.nodes k c.number h;
  tables = refl;
}

some_below : (p : Option Node → Bool) → p None ≡ false → (ns : List Node) (j : ℕ) → p (slice_get ns j) ≡ true → j < length ns
some_below p none [] j h = absurd (true≢false (sym h ∙ none))
some_below p none (x ∷ xs) zero h = omega arith
some_below p none (x ∷ xs) (suc j) h = let i = some_below p none xs j h in omega (arith, i)

pub word_below : (g : Terms) (x : WordId) → HasWord g x → x.number < length g.nodes
word_below g x h = some_below holds_word refl g.nodes x.number h

pub bit_below : (g : Terms) (c : BitId) → HasBit g c → c.number < length g.nodes
bit_below g c h = some_below holds_bit refl g.nodes c.number h

pub IsPlaced-below : (g : Terms) (n : Node) → IsPlaced g n → Each (λ c. c < length g.nodes) (children n)
IsPlaced-below g (Word (Const v)) p = tt
IsPlaced-below g (Word (Byte place)) p = tt
IsPlaced-below g (Word (Cell place)) p = tt
IsPlaced-below g (Word (Not x)) p = (word_below g x p, tt)
IsPlaced-below g (Word (And x y)) p = (word_below g x p.0, (word_below g y p.1, tt))
IsPlaced-below g (Word (Or x y)) p = (word_below g x p.0, (word_below g y p.1, tt))
IsPlaced-below g (Word (Xor x y)) p = (word_below g x p.0, (word_below g y p.1, tt))
IsPlaced-below g (Word (Sum x y c)) p = (word_below g x p.0, (word_below g y p.1, (bit_below g c p.2, tt)))
IsPlaced-below g (Word (Diff x y c)) p = (word_below g x p.0, (word_below g y p.1, (bit_below g c p.2, tt)))
IsPlaced-below g (Word (Ite c x y)) p = (bit_below g c p.0, (word_below g x p.1, (word_below g y p.2, tt)))
IsPlaced-below g (Word (Shl x m)) p = (word_below g x p.0, tt)
IsPlaced-below g (Word (Shr x m)) p = (word_below g x p.0, tt)
IsPlaced-below g (Word (High x y)) p = (word_below g x p.0, (word_below g y p.1, tt))
IsPlaced-below g (Word (Low x y)) p = (word_below g x p.0, (word_below g y p.1, tt))
IsPlaced-below g (Word (Look t x)) p = (word_below g x p.1, tt)
IsPlaced-below g (Bit (Known v)) p = tt
IsPlaced-below g (Bit (Pick x m)) p = (word_below g x p.0, tt)
IsPlaced-below g (Bit (NotB c)) p = (bit_below g c p, tt)
IsPlaced-below g (Bit (AndB c d)) p = (bit_below g c p.0, (bit_below g d p.1, tt))
IsPlaced-below g (Bit (OrB c d)) p = (bit_below g c p.0, (bit_below g d p.1, tt))
IsPlaced-below g (Bit (XorB c d)) p = (bit_below g c p.0, (bit_below g d p.1, tt))
IsPlaced-below g (Bit (IteB c d e)) p = (bit_below g c p.0, (bit_below g d p.1, (bit_below g e p.2, tt)))
IsPlaced-below g (Bit (Same x y)) p = (word_below g x p.0, (word_below g y p.1, tt))
IsPlaced-below g (Bit (Carry x y c)) p = (word_below g x p.0, (word_below g y p.1, (bit_below g c p.2, tt)))
IsPlaced-below g (Bit (Borrow x y c)) p = (word_below g x p.0, (word_below g y p.1, (bit_below g c p.2, tt)))

pub Each-map : (P Q : ℕ → Type 0) → ((c : ℕ) → P c → Q c) → (ks : List ℕ) → Each P ks → Each Q ks
Each-map P Q f [] e = tt
Each-map P Q f (k ∷ ks) e = (f k e.0, Each-map P Q f ks e.1)

pub Each-both : (P Q : ℕ → Type 0) (ks : List ℕ) → Each P ks → Each Q ks → Each (λ c. P c × Q c) ks
Each-both P Q [] e f = tt
Each-both P Q (k ∷ ks) e f = ((e.0, f.0), Each-both P Q ks e.1 f.1)

pub Each-from : (P : ℕ → Type 0) (ks : List ℕ) → ((c : ℕ) → IsAmong c ks → P c) → Each P ks
Each-from P [] f = tt
Each-from P (k ∷ ks) f = (f k (inl refl), Each-from P ks (λ c h. f c (inr h)))

pub Each-at : (P : ℕ → Type 0) (ks : List ℕ) (c : ℕ) → Each P ks → IsAmong c ks → P c
Each-at P [] c e h = absurd h
Each-at P (k ∷ ks) c e h = elim h [ inl q ↦ subst P (sym q) e.0 | inr h2 ↦ Each-at P ks c e.1 h2 ]

-- the children of a node at a number that is placed have smaller numbers
pub children_below : (g : Terms) (k : ℕ) (n : Node) → IsPlaced (first_of k g) n → Each (λ c. c < k) (children n)
children_below g k n p =
    Each-map _ _ (λ c h. omega (arith, length-take k g.nodes, h)) (children n) (IsPlaced-below (first_of k g) n p)
