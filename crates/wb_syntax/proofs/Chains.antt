-- Tokens are read as an expression in one way.
--
-- A term is an atom and the factors that follow it, one after the other, and an expression a first term and what is
-- added to it. Where two readings begin alike, the longer one goes on from where the shorter one ends.
use Rattle.std.proofs.Common.{◌≡◌, ℕ, zero, suc, ◌+◌, ◌≤◌, ◌⊎◌, inl, inr, Bool, true, false, Option, Some, None, List, length, sym, refl, ap, ◌∙◌, subst, arith}
use Rattle.std.specs.List.{slice_get}
use Rattle.std.proofs.lemmas.Bool.{eqb-true, cases_Bool, or_cases, or_right}
use Rattle.wb_lex.specs.declared.tokens.Token.{Token}
use Rattle.wb_lex.specs.declared.tokens.TokenKind.{TokenKind}
use Rattle.wb_lex.specs.declared.tokens.TokenKind.TheVariants as kind
use Rattle.wb_syntax.specs.Spelling.{span_of}
use Rattle.wb_syntax.specs.Tree.{Tree, Number, Label, Minus, Plus, Less, Times}
use Rattle.wb_syntax.specs.Expression.{Stands, is_mark_kind, is_this_mark, has_mark, IsExpr, IsTerm, IsAtom, term, minus, plus, less, atom, times, number, label, here, inside}
use Rattle.std.proofs.lemmas.Option.{slice_get_past}
use Rattle.wb_syntax.specs.Expression.{IsExpression}
use Rattle.wb_syntax.specs.Reading.{IsFirst, has_sum_mark}

-- ---- marks

-- the mark that a kind of token is
mark_of : (m n : ℕ) (kind : TokenKind) → is_mark_kind m kind ≡ true → is_mark_kind n kind ≡ true → m ≡ n
mark_of m n (kind.Mark other) a b = sym (eqb-true other m a) ∙ eqb-true other n b
mark_of m n kind.Name a b = cc
mark_of m n (kind.Number k) a b = cc
mark_of m n kind.Bad a b = cc
mark_of m n kind.LineEnd a b = cc

mark_at : (m n : ℕ) (o : Option Token) → is_this_mark m o ≡ true → is_this_mark n o ≡ true → m ≡ n
mark_at m n None a b = cc
mark_at m n (Some token) a b = mark_of m n token.kind a b

-- one place has one mark
pub one_mark : (tokens : List Token) (place m n : ℕ) → has_mark tokens place m ≡ true → has_mark tokens place n ≡ true → m ≡ n
one_mark tokens place m n a b = mark_at m n (slice_get tokens place) a b

-- a mark that stands where another does not
pub other_mark : (tokens : List Token) (place m n : ℕ) → has_mark tokens place m ≡ true → (m ≡ n → ⊥) → has_mark tokens place n ≡ false
other_mark tokens place m n a differ = by (has_mark tokens place n) refl
  where
    by : (b : Bool) → has_mark tokens place n ≡ b → has_mark tokens place n ≡ false
    by true e = absurd (differ (one_mark tokens place m n a e))
    by false e = e

-- a token that is a mark, and another that is none
marked : (tokens : List Token) (place m : ℕ) (token : Token) → Stands tokens place token → has_mark tokens place m ≡ true → is_mark_kind m token.kind ≡ true
marked tokens place m token stands e = rw stands at e

pub number_is_no_mark : (tokens : List Token) (place m n : ℕ) (token : Token) → Stands tokens place token → token.kind ≡ kind.Number n → has_mark tokens place m ≡ true → ⊥
number_is_no_mark tokens place m n token stands e mark = let wrong = rw e at (marked tokens place m token stands mark) in cc

pub name_is_no_mark : (tokens : List Token) (place m : ℕ) (token : Token) → Stands tokens place token → token.kind ≡ kind.Name → has_mark tokens place m ≡ true → ⊥
name_is_no_mark tokens place m token stands e mark = let wrong = rw e at (marked tokens place m token stands mark) in cc

-- operators after a term
sum_is_no_star : (tokens : List Token) (place : ℕ) → has_sum_mark tokens place ≡ true → has_mark tokens place 42 ≡ false
sum_is_no_star tokens place sum = by (or_cases (has_mark tokens place 43) (has_mark tokens place 45) sum)
  where
    by : (has_mark tokens place 43 ≡ true) ⊎ (has_mark tokens place 45 ≡ true) → has_mark tokens place 42 ≡ false
    by (inl e) = other_mark tokens place 43 42 e (λ h. absurd (omega arith))
    by (inr e) = other_mark tokens place 45 42 e (λ h. absurd (omega arith))

-- nothing goes on with an expression at a parenthesis that closes
pub no_star : (tokens : List Token) (place : ℕ) → has_mark tokens place 41 ≡ true → has_mark tokens place 42 ≡ false
no_star tokens place closed = other_mark tokens place 41 42 closed (λ h. absurd (omega arith))

pub no_sum : (tokens : List Token) (place : ℕ) → has_mark tokens place 41 ≡ true → has_sum_mark tokens place ≡ false
no_sum tokens place closed =
    rw (other_mark tokens place 41 43 closed (λ h. absurd (omega arith)), other_mark tokens place 41 45 closed (λ h. absurd (omega arith))) refl

module _ (text : List ℕ) (tokens : List Token) where
  abbrev pub AtomsAreOne : ℕ → Type 0
  AtomsAreOne depth = (s e e' : ℕ) (x x' : Tree) → IsAtom text tokens depth s e x → IsAtom text tokens depth s e' x' → (e ≡ e') × (x ≡ x')

  -- ---- factors

  -- the factors from one place up to another, and what becomes of a product by them
  pub data Factors (depth : ℕ) : ℕ → Tree → ℕ → Tree → Type 0 where
    none : (s : ℕ) (x : Tree) → Factors depth s x s x
    more : (s m e : ℕ) (x y z : Tree) → has_mark tokens s 42 ≡ true → IsAtom text tokens depth (s + 1) m y → Factors depth m (Times x y) e z → Factors depth s x e z

  factors-push : (depth s m e : ℕ) (x y z : Tree) → Factors depth s x m y → has_mark tokens m 42 ≡ true → IsAtom text tokens depth (m + 1) e z → Factors depth s x e (Times y z)
  factors-push depth s m e x y z (none _ _) star is = more s e e x z (Times x z) star is (none e (Times x z))
  factors-push depth s m e x y z (more _ k _ _ w _ first one others) star is = more s k e x w (Times y z) first one (factors-push depth k m e (Times x w) y z others star is)

  factors_one : (depth s e e' : ℕ) (x y y' : Tree) → AtomsAreOne depth → Factors depth s x e y → has_mark tokens e 42 ≡ false → Factors depth s x e' y' → has_mark tokens e' 42 ≡ false → (e ≡ e') × (y ≡ y')
  factors_one depth s e e' x y y' one (none _ _) ends (none _ _) ends' = (refl, refl)
  factors_one depth s e e' x y y' one (none _ _) ends (more _ m _ _ w _ star is others) ends' = cc
  factors_one depth s e e' x y y' one (more _ m _ _ w _ star is others) ends (none _ _) ends' = cc
  factors_one depth s e e' x y y' one (more _ m _ _ w _ star is others) ends (more _ m' _ _ w' _ star' is' others') ends' =
      let same = one (s + 1) m m' w w' is is' in
      let moved : Factors depth m (Times x w) e' y' = subst (λ k. Factors depth k (Times x w) e' y') (sym same.0) (subst (λ v. Factors depth m' (Times x v) e' y') (sym same.1) others') in
      factors_one depth m e e' (Times x w) y y' one others ends moved ends'

  -- where no factor follows a star, no term ends but before a star
  factors_stuck : (depth s e e' : ℕ) (x y y' : Tree) → AtomsAreOne depth → Factors depth s x e y → has_mark tokens e 42 ≡ true → ((m : ℕ) (z : Tree) → IsAtom text tokens depth (e + 1) m z → ⊥)
      → Factors depth s x e' y' → has_mark tokens e' 42 ≡ true
  factors_stuck depth s e e' x y y' one (none _ _) star stuck (none _ _) = star
  factors_stuck depth s e e' x y y' one (none _ _) star stuck (more _ m _ _ w _ mark is others) = absurd (stuck m w is)
  factors_stuck depth s e e' x y y' one (more _ m _ _ w _ mark is others) star stuck (none _ _) = mark
  factors_stuck depth s e e' x y y' one (more _ m _ _ w _ mark is others) star stuck (more _ m' _ _ w' _ here' is' others') =
      let same = one (s + 1) m m' w w' is is' in
      let moved : Factors depth m (Times x w) e' y' = subst (λ k. Factors depth k (Times x w) e' y') (sym same.0) (subst (λ v. Factors depth m' (Times x v) e' y') (sym same.1) others') in
      factors_stuck depth m e e' (Times x w) y y' one others star stuck moved

  -- a term, as an atom and its factors
  record TermChain (depth s e : ℕ) (x : Tree) : Type 0 where
    middle : ℕ
    head : Tree
    first : IsAtom text tokens depth s middle head
    others : Factors depth middle head e x

  term_chain : (depth s e : ℕ) (x : Tree) → IsTerm text tokens depth s e x → TermChain depth s e x
  term_chain depth s e x (atom _ _ _ _ is) = record { middle = e; head = x; first = is; others = none e x }
  term_chain depth s e x (times _ _ m _ y z is star one) =
      let chain = term_chain depth s m y is in
      record { middle = chain.middle; head = chain.head; first = chain.first; others = factors-push depth chain.middle m e chain.head y z chain.others star one }

  -- the other chain, from where the first atom of this one ends
  same_start : (depth s e e' : ℕ) (x x' : Tree) → AtomsAreOne depth → (chain : TermChain depth s e x) (other : TermChain depth s e' x') → Factors depth chain.middle chain.head e' x'
  same_start depth s e e' x x' one chain other =
      let same = one s chain.middle other.middle chain.head other.head chain.first other.first in
      subst (λ k. Factors depth k chain.head e' x') (sym same.0) (subst (λ v. Factors depth other.middle v e' x') (sym same.1) other.others)

  abbrev pub TermsAreOne : ℕ → Type 0
  TermsAreOne depth =
      (s e e' : ℕ) (x x' : Tree) → IsTerm text tokens depth s e x → has_mark tokens e 42 ≡ false → IsTerm text tokens depth s e' x' → has_mark tokens e' 42 ≡ false → (e ≡ e') × (x ≡ x')

  terms_one : (depth : ℕ) → AtomsAreOne depth → TermsAreOne depth
  terms_one depth one s e e' x x' is ends is' ends' =
      let chain = term_chain depth s e x is in
      factors_one depth chain.middle e e' chain.head x x' one chain.others ends (same_start depth s e e' x x' one chain (term_chain depth s e' x' is')) ends'

  pub term_stuck : (depth s e e' : ℕ) (x x' : Tree) → AtomsAreOne depth → IsTerm text tokens depth s e x → has_mark tokens e 42 ≡ true → ((m : ℕ) (z : Tree) → IsAtom text tokens depth (e + 1) m z → ⊥)
      → IsTerm text tokens depth s e' x' → has_mark tokens e' 42 ≡ true
  term_stuck depth s e e' x x' one is star stuck is' =
      let chain = term_chain depth s e x is in
      factors_stuck depth chain.middle e e' chain.head x x' one chain.others star stuck (same_start depth s e e' x x' one chain (term_chain depth s e' x' is'))

  -- a term begins with an atom
  pub no_atom_no_term : (depth s e : ℕ) (x : Tree) → ((m : ℕ) (z : Tree) → IsAtom text tokens depth s m z → ⊥) → IsTerm text tokens depth s e x → ⊥
  no_atom_no_term depth s e x no_atom (atom _ _ _ _ is) = no_atom e x is
  no_atom_no_term depth s e x no_atom (times _ _ m _ y z is star one) = no_atom_no_term depth s m y no_atom is

  -- ---- summands

  atom_no_minus : (depth s e : ℕ) (x : Tree) → has_mark tokens s 45 ≡ true → IsAtom text tokens depth s e x → ⊥
  atom_no_minus depth s e x sign (number _ _ _ n token _ stands is) = number_is_no_mark tokens s 45 n token stands is sign
  atom_no_minus depth s e x sign (label _ _ _ span token _ stands is) = name_is_no_mark tokens s 45 token stands is.is_name sign
  atom_no_minus depth s e x sign (here _ _ _ _ mark) = let same = one_mark tokens s 36 45 mark sign in absurd (omega arith)
  atom_no_minus depth s e x sign (inside _ _ _ _ _ _ _ _ mark _ _) = let same = one_mark tokens s 40 45 mark sign in absurd (omega arith)

  -- what is added from one place up to another, and what becomes of a sum by it
  pub data Sums (depth : ℕ) : ℕ → Tree → ℕ → Tree → Type 0 where
    last : (s : ℕ) (x : Tree) → Sums depth s x s x
    plus_more : (s m e : ℕ) (x y z : Tree) → has_mark tokens s 43 ≡ true → IsTerm text tokens depth (s + 1) m y → Sums depth m (Plus x y) e z → Sums depth s x e z
    less_more : (s m e : ℕ) (x y z : Tree) → has_mark tokens s 45 ≡ true → IsTerm text tokens depth (s + 1) m y → Sums depth m (Less x y) e z → Sums depth s x e z

  sums-plus : (depth s m e : ℕ) (x y z : Tree) → Sums depth s x m y → has_mark tokens m 43 ≡ true → IsTerm text tokens depth (m + 1) e z → Sums depth s x e (Plus y z)
  sums-plus depth s m e x y z (last _ _) mark is = plus_more s e e x z (Plus x z) mark is (last e (Plus x z))
  sums-plus depth s m e x y z (plus_more _ k _ _ w _ first one others) mark is = plus_more s k e x w (Plus y z) first one (sums-plus depth k m e (Plus x w) y z others mark is)
  sums-plus depth s m e x y z (less_more _ k _ _ w _ first one others) mark is = less_more s k e x w (Plus y z) first one (sums-plus depth k m e (Less x w) y z others mark is)

  sums-less : (depth s m e : ℕ) (x y z : Tree) → Sums depth s x m y → has_mark tokens m 45 ≡ true → IsTerm text tokens depth (m + 1) e z → Sums depth s x e (Less y z)
  sums-less depth s m e x y z (last _ _) mark is = less_more s e e x z (Less x z) mark is (last e (Less x z))
  sums-less depth s m e x y z (plus_more _ k _ _ w _ first one others) mark is = plus_more s k e x w (Less y z) first one (sums-less depth k m e (Plus x w) y z others mark is)
  sums-less depth s m e x y z (less_more _ k _ _ w _ first one others) mark is = less_more s k e x w (Less y z) first one (sums-less depth k m e (Less x w) y z others mark is)

  record ExprChain (depth s e : ℕ) (x : Tree) : Type 0 where
    middle : ℕ
    head : Tree
    first : IsFirst text tokens depth s middle head
    others : Sums depth middle head e x

  expr_chain : (depth s e : ℕ) (x : Tree) → IsExpr text tokens depth s e x → ExprChain depth s e x
  expr_chain depth s e x (term _ _ _ _ is) = record { middle = e; head = x; first = inl is; others = last e x }
  expr_chain depth s e x (minus _ _ _ y mark is) = record { middle = e; head = Minus y; first = inr (y, refl, mark, is); others = last e (Minus y) }
  expr_chain depth s e x (plus _ _ m _ y z is mark one) =
      let chain = expr_chain depth s m y is in
      record { middle = chain.middle; head = chain.head; first = chain.first; others = sums-plus depth chain.middle m e chain.head y z chain.others mark one }
  expr_chain depth s e x (less _ _ m _ y z is mark one) =
      let chain = expr_chain depth s m y is in
      record { middle = chain.middle; head = chain.head; first = chain.first; others = sums-less depth chain.middle m e chain.head y z chain.others mark one }

  plus_is_sum : (s : ℕ) → has_mark tokens s 43 ≡ true → has_sum_mark tokens s ≡ true
  plus_is_sum s mark = rw mark refl

  less_is_sum : (s : ℕ) → has_mark tokens s 45 ≡ true → has_sum_mark tokens s ≡ true
  less_is_sum s mark = or_right (has_mark tokens s 43) (has_mark tokens s 45) mark

  -- where a sum ends without a star after it, no star stands after its front
  whole_front : (depth s e : ℕ) (x y : Tree) → Sums depth s x e y → has_mark tokens e 42 ≡ false → has_mark tokens s 42 ≡ false
  whole_front depth s e x y (last _ _) ends = ends
  whole_front depth s e x y (plus_more _ m _ _ w _ mark is others) ends = other_mark tokens s 43 42 mark (λ h. absurd (omega arith))
  whole_front depth s e x y (less_more _ m _ _ w _ mark is others) ends = other_mark tokens s 45 42 mark (λ h. absurd (omega arith))

  -- an operator after a sum
  abbrev pub GoesOn : ℕ → Type 0
  GoesOn e = (has_mark tokens e 42 ≡ true) ⊎ (has_sum_mark tokens e ≡ true)

  after_star : (depth s e : ℕ) (x y : Tree) → has_mark tokens s 42 ≡ true → Sums depth s x e y → GoesOn e
  after_star depth s e x y star (last _ _) = inl star
  after_star depth s e x y star (plus_more _ m _ _ w _ mark is others) = let same = one_mark tokens s 42 43 star mark in absurd (omega arith)
  after_star depth s e x y star (less_more _ m _ _ w _ mark is others) = let same = one_mark tokens s 42 45 star mark in absurd (omega arith)

  sums_one : (depth s e e' : ℕ) (x y y' : Tree) → TermsAreOne depth → Sums depth s x e y → has_mark tokens e 42 ≡ false → has_sum_mark tokens e ≡ false
      → Sums depth s x e' y' → has_mark tokens e' 42 ≡ false → has_sum_mark tokens e' ≡ false → (e ≡ e') × (y ≡ y')
  sums_one depth s e e' x y y' one (last _ _) star ends (last _ _) star' ends' = (refl, refl)
  sums_one depth s e e' x y y' one (last _ _) star ends (plus_more _ m _ _ w _ mark is others) star' ends' = let sum = plus_is_sum s mark in cc
  sums_one depth s e e' x y y' one (last _ _) star ends (less_more _ m _ _ w _ mark is others) star' ends' = let sum = less_is_sum s mark in cc
  sums_one depth s e e' x y y' one (plus_more _ m _ _ w _ mark is others) star ends (last _ _) star' ends' = let sum = plus_is_sum s mark in cc
  sums_one depth s e e' x y y' one (less_more _ m _ _ w _ mark is others) star ends (last _ _) star' ends' = let sum = less_is_sum s mark in cc
  sums_one depth s e e' x y y' one (plus_more _ m _ _ w _ mark is others) star ends (less_more _ m' _ _ w' _ mark' is' others') star' ends' =
      let same = one_mark tokens s 43 45 mark mark' in absurd (omega arith)
  sums_one depth s e e' x y y' one (less_more _ m _ _ w _ mark is others) star ends (plus_more _ m' _ _ w' _ mark' is' others') star' ends' =
      let same = one_mark tokens s 43 45 mark' mark in absurd (omega arith)
  sums_one depth s e e' x y y' one (plus_more _ m _ _ w _ mark is others) star ends (plus_more _ m' _ _ w' _ mark' is' others') star' ends' =
      let same = one (s + 1) m m' w w' is (whole_front depth m e (Plus x w) y others star) is' (whole_front depth m' e' (Plus x w') y' others' star') in
      let moved : Sums depth m (Plus x w) e' y' = subst (λ k. Sums depth k (Plus x w) e' y') (sym same.0) (subst (λ v. Sums depth m' (Plus x v) e' y') (sym same.1) others') in
      sums_one depth m e e' (Plus x w) y y' one others star ends moved star' ends'
  sums_one depth s e e' x y y' one (less_more _ m _ _ w _ mark is others) star ends (less_more _ m' _ _ w' _ mark' is' others') star' ends' =
      let same = one (s + 1) m m' w w' is (whole_front depth m e (Less x w) y others star) is' (whole_front depth m' e' (Less x w') y' others' star') in
      let moved : Sums depth m (Less x w) e' y' = subst (λ k. Sums depth k (Less x w) e' y') (sym same.0) (subst (λ v. Sums depth m' (Less x v) e' y') (sym same.1) others') in
      sums_one depth m e e' (Less x w) y y' one others star ends moved star' ends'

  -- the same of what goes on in place of a whole term
  sums_stuck : (depth s e e' : ℕ) (x y y' : Tree) → TermsAreOne depth → Sums depth s x e y → has_sum_mark tokens e ≡ true
      → ((m : ℕ) (z : Tree) → IsTerm text tokens depth (e + 1) m z → has_mark tokens m 42 ≡ true) → Sums depth s x e' y' → GoesOn e'
  sums_stuck depth s e e' x y y' one (last _ _) sum stuck (last _ _) = inr sum
  sums_stuck depth s e e' x y y' one (last _ _) sum stuck (plus_more _ m _ _ w _ mark is others) = after_star depth m e' (Plus x w) y' (stuck m w is) others
  sums_stuck depth s e e' x y y' one (last _ _) sum stuck (less_more _ m _ _ w _ mark is others) = after_star depth m e' (Less x w) y' (stuck m w is) others
  sums_stuck depth s e e' x y y' one (plus_more _ m _ _ w _ mark is others) sum stuck (last _ _) = inr (plus_is_sum s mark)
  sums_stuck depth s e e' x y y' one (less_more _ m _ _ w _ mark is others) sum stuck (last _ _) = inr (less_is_sum s mark)
  sums_stuck depth s e e' x y y' one (plus_more _ m _ _ w _ mark is others) sum stuck (less_more _ m' _ _ w' _ mark' is' others') =
      let same = one_mark tokens s 43 45 mark mark' in absurd (omega arith)
  sums_stuck depth s e e' x y y' one (less_more _ m _ _ w _ mark is others) sum stuck (plus_more _ m' _ _ w' _ mark' is' others') =
      let same = one_mark tokens s 43 45 mark' mark in absurd (omega arith)
  sums_stuck depth s e e' x y y' one (plus_more _ m _ _ w _ mark is others) sum stuck (plus_more _ m' _ _ w' _ mark' is' others') =
      by (cases_Bool (has_mark tokens m' 42)) (λ moved. sums_stuck depth m e e' (Plus x w) y y' one others sum stuck moved)
    where
      by : (has_mark tokens m' 42 ≡ true) ⊎ (has_mark tokens m' 42 ≡ false) → (Sums depth m (Plus x w) e' y' → GoesOn e') → GoesOn e'
      by (inl star) next = after_star depth m' e' (Plus x w') y' star others'
      by (inr whole) next =
          let same = one (s + 1) m m' w w' is (whole_front depth m e (Plus x w) y others (sum_is_no_star tokens e sum)) is' whole in
          next (subst (λ k. Sums depth k (Plus x w) e' y') (sym same.0) (subst (λ v. Sums depth m' (Plus x v) e' y') (sym same.1) others'))
  sums_stuck depth s e e' x y y' one (less_more _ m _ _ w _ mark is others) sum stuck (less_more _ m' _ _ w' _ mark' is' others') =
      by (cases_Bool (has_mark tokens m' 42)) (λ moved. sums_stuck depth m e e' (Less x w) y y' one others sum stuck moved)
    where
      by : (has_mark tokens m' 42 ≡ true) ⊎ (has_mark tokens m' 42 ≡ false) → (Sums depth m (Less x w) e' y' → GoesOn e') → GoesOn e'
      by (inl star) next = after_star depth m' e' (Less x w') y' star others'
      by (inr whole) next =
          let same = one (s + 1) m m' w w' is (whole_front depth m e (Less x w) y others (sum_is_no_star tokens e sum)) is' whole in
          next (subst (λ k. Sums depth k (Less x w) e' y') (sym same.0) (subst (λ v. Sums depth m' (Less x v) e' y') (sym same.1) others'))

  -- ---- expressions

  pub term_no_minus : (depth s e : ℕ) (x : Tree) → has_mark tokens s 45 ≡ true → IsTerm text tokens depth s e x → ⊥
  term_no_minus depth s e x mark is = no_atom_no_term depth s e x (λ m z. atom_no_minus depth s m z mark) is

  firsts_one : (depth s e e' : ℕ) (x x' : Tree) → TermsAreOne depth → IsFirst text tokens depth s e x → has_mark tokens e 42 ≡ false → IsFirst text tokens depth s e' x' → has_mark tokens e' 42 ≡ false
      → (e ≡ e') × (x ≡ x')
  firsts_one depth s e e' x x' one (inl is) ends (inl is') ends' = one s e e' x x' is ends is' ends'
  firsts_one depth s e e' x x' one (inl is) ends (inr other) ends' = absurd (term_no_minus depth s e x other.2 is)
  firsts_one depth s e e' x x' one (inr is) ends (inl other) ends' = absurd (term_no_minus depth s e' x' is.2 other)
  firsts_one depth s e e' x x' one (inr is) ends (inr other) ends' =
      let same = one (s + 1) e e' is.0 other.0 is.3 ends other.3 ends' in
      (same.0, is.1 ∙ ap (λ y. Minus y) same.1 ∙ sym other.1)

  abbrev pub ExprsAreOne : ℕ → Type 0
  ExprsAreOne depth =
      (s e e' : ℕ) (x x' : Tree) → IsExpr text tokens depth s e x → has_mark tokens e 42 ≡ false → has_sum_mark tokens e ≡ false
      → IsExpr text tokens depth s e' x' → has_mark tokens e' 42 ≡ false → has_sum_mark tokens e' ≡ false → (e ≡ e') × (x ≡ x')

  exprs_one : (depth : ℕ) → AtomsAreOne depth → ExprsAreOne depth
  exprs_one depth atoms s e e' x x' is star ends is' star' ends' =
      let one = terms_one depth atoms in
      let chain = expr_chain depth s e x is in
      let other = expr_chain depth s e' x' is' in
      let same = firsts_one depth s chain.middle other.middle chain.head other.head one chain.first (whole_front depth chain.middle e chain.head x chain.others star)
      other.first (whole_front depth other.middle e' other.head x' other.others star') in
      let moved : Sums depth chain.middle chain.head e' x' =
      subst (λ k. Sums depth k chain.head e' x') (sym same.0) (subst (λ v. Sums depth other.middle v e' x') (sym same.1) other.others) in
      sums_one depth chain.middle e e' chain.head x x' one chain.others star ends moved star' ends'

  -- where no whole term follows an operator, no expression ends but before an operator
  pub expr_stuck : (depth s e e' : ℕ) (x x' : Tree) → AtomsAreOne depth → IsExpr text tokens depth s e x → has_sum_mark tokens e ≡ true
      → ((m : ℕ) (z : Tree) → IsTerm text tokens depth (e + 1) m z → has_mark tokens m 42 ≡ true) → IsExpr text tokens depth s e' x' → GoesOn e'
  expr_stuck depth s e e' x x' atoms is sum stuck is' = by (cases_Bool (has_mark tokens (expr_chain depth s e' x' is').middle 42))
    where
      by : (has_mark tokens (expr_chain depth s e' x' is').middle 42 ≡ true) ⊎ (has_mark tokens (expr_chain depth s e' x' is').middle 42 ≡ false) → GoesOn e'
      by (inl star) = let other = expr_chain depth s e' x' is' in after_star depth other.middle e' other.head x' star other.others
      by (inr whole) =
          let one = terms_one depth atoms in
          let chain = expr_chain depth s e x is in
          let other = expr_chain depth s e' x' is' in
          let same = firsts_one depth s chain.middle other.middle chain.head other.head one chain.first
          (whole_front depth chain.middle e chain.head x chain.others (sum_is_no_star tokens e sum)) other.first whole in
          let moved : Sums depth chain.middle chain.head e' x' =
          subst (λ k. Sums depth k chain.head e' x') (sym same.0) (subst (λ v. Sums depth other.middle v e' x') (sym same.1) other.others) in
          sums_stuck depth chain.middle e e' chain.head x x' one chain.others sum stuck moved

  -- nor where no whole term begins it
  pub first_stuck : (depth s e : ℕ) (x : Tree) → ((m : ℕ) (z : Tree) → IsFirst text tokens depth s m z → has_mark tokens m 42 ≡ true) → IsExpr text tokens depth s e x → GoesOn e
  first_stuck depth s e x stuck is =
      let chain = expr_chain depth s e x is in
      after_star depth chain.middle e chain.head x (stuck chain.middle chain.head chain.first) chain.others

  -- ---- atoms

  pub same_token : (s : ℕ) (a b : Token) → Stands tokens s a → Stands tokens s b → a ≡ b
  same_token s a b e f = cc

  module _ (depth : ℕ) (deeper_one : (deeper : ℕ) → depth ≡ deeper + 1 → AtomsAreOne deeper) where
    atoms_one : AtomsAreOne depth
    atoms_one s e e' x x' (number _ _ _ n token ends stands is) (number _ _ _ n' token' ends' stands' is') =
        let same = same_token s token token' stands stands' in
        (ends ∙ sym ends', let kinds : kind.Number n ≡ kind.Number n' = cc in let numbers : n ≡ n' = cc in ap (λ k. Number k) numbers)
    atoms_one s e e' x x' (number _ _ _ n token ends stands is) (label _ _ _ span token' ends' stands' is') =
        let same = same_token s token token' stands stands' in
        let named = is'.is_name in
        cc
    atoms_one s e e' x x' (number _ _ _ n token ends stands is) (here _ _ _ ends' mark) = absurd (number_is_no_mark tokens s 36 n token stands is mark)
    atoms_one s e e' x x' (number _ _ _ n token ends stands is) (inside _ _ _ _ _ _ _ _ mark _ _) = absurd (number_is_no_mark tokens s 40 n token stands is mark)
    atoms_one s e e' x x' (label _ _ _ span token ends stands is) (number _ _ _ n token' ends' stands' is') =
        let same = same_token s token token' stands stands' in
        let named = is.is_name in
        cc
    atoms_one s e e' x x' (label _ _ _ span token ends stands is) (label _ _ _ span' token' ends' stands' is') =
        let same = same_token s token token' stands stands' in
        let spans : span ≡ span' = is.same ∙ ap span_of same ∙ sym is'.same in
        (ends ∙ sym ends', ap (λ k. Label k) spans)
    atoms_one s e e' x x' (label _ _ _ span token ends stands is) (here _ _ _ ends' mark) = absurd (name_is_no_mark tokens s 36 token stands is.is_name mark)
    atoms_one s e e' x x' (label _ _ _ span token ends stands is) (inside _ _ _ _ _ _ _ _ mark _ _) = absurd (name_is_no_mark tokens s 40 token stands is.is_name mark)
    atoms_one s e e' x x' (here _ _ _ ends mark) (number _ _ _ n token ends' stands is) = absurd (number_is_no_mark tokens s 36 n token stands is mark)
    atoms_one s e e' x x' (here _ _ _ ends mark) (label _ _ _ span token ends' stands is) = absurd (name_is_no_mark tokens s 36 token stands is.is_name mark)
    atoms_one s e e' x x' (here _ _ _ ends mark) (here _ _ _ ends' mark') = (ends ∙ sym ends', refl)
    atoms_one s e e' x x' (here _ _ _ ends mark) (inside _ _ _ _ _ _ _ _ mark' _ _) = let same = one_mark tokens s 36 40 mark mark' in absurd (omega arith)
    atoms_one s e e' x x' (inside _ _ _ _ _ _ _ _ mark _ _) (number _ _ _ n token ends' stands is) = absurd (number_is_no_mark tokens s 40 n token stands is mark)
    atoms_one s e e' x x' (inside _ _ _ _ _ _ _ _ mark _ _) (label _ _ _ span token ends' stands is) = absurd (name_is_no_mark tokens s 40 token stands is.is_name mark)
    atoms_one s e e' x x' (inside _ _ _ _ _ _ _ _ mark _ _) (here _ _ _ ends' mark') = let same = one_mark tokens s 36 40 mark' mark in absurd (omega arith)
    atoms_one s e e' x x' (inside _ deeper _ close _ _ below ends mark is closed) (inside _ deeper' _ close' _ _ below' ends' mark' is' closed') =
        let level : deeper' ≡ deeper = omega arith in
        let same = exprs_one deeper (deeper_one deeper below) (s + 1) close close' x x' is (no_star tokens close closed) (no_sum tokens close closed)
        (subst (λ d. IsExpr text tokens d (s + 1) close' x') level is') (no_star tokens close' closed') (no_sum tokens close' closed') in
        (ends ∙ ap (λ k. k + 1) same.0 ∙ sym ends', same.1)

  pub atoms_are_one : (depth : ℕ) → AtomsAreOne depth
  atoms_are_one zero = atoms_one zero (λ deeper e. absurd (omega arith))
  atoms_are_one (suc depth) = atoms_one (suc depth) (λ deeper e. let same : depth ≡ deeper = omega arith in subst AtomsAreOne same (atoms_are_one depth))

  pub exprs_are_one : (depth : ℕ) → ExprsAreOne depth
  exprs_are_one depth = exprs_one depth (atoms_are_one depth)

-- past the last token stands no mark
nothing_past : (tokens : List Token) (place mark : ℕ) → length tokens ≤ place → has_mark tokens place mark ≡ false
nothing_past tokens place mark past = rw (slice_get_past tokens place past) refl

pub one_tree : (text : List ℕ) (tokens : List Token) (x y : Tree) → IsExpression text tokens x → IsExpression text tokens y → x ≡ y
one_tree text tokens x y a b =
    let end = length tokens in
    let star = nothing_past tokens end 42 (omega arith) in
    let sum : has_sum_mark tokens end ≡ false = rw (nothing_past tokens end 43 (omega arith), nothing_past tokens end 45 (omega arith)) refl in
    (exprs_are_one text tokens 16 0 end end x y a.is star sum b.is star sum).1
