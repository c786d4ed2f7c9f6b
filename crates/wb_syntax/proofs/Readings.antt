-- What the readers of expressions answer.
use Rattle.std.proofs.Common.{◌≡◌, ℕ, ◌+◌, ◌-◌, ◌<◌, ◌≤◌, inl, inr, Bool, true, false, ◌||◌, cond, Option, Some, None, Result, Ok, Err, List, length, sym, refl, ap, subst, arith}
use Rattle.std.specs.List.{slice_get}
use Rattle.std.proofs.lemmas.Bool.{both_ways, eq-eqb, eqb-true}
use Rattle.wb_lex.specs.declared.tokens.Token.{Token}
use Rattle.wb_lex.specs.declared.tokens.TokenKind.{TokenKind}
use Rattle.wb_lex.specs.declared.tokens.TokenKind.TheVariants as kind
use Rattle.wb_syntax.specs.declared.refusals.Refusal.{Refusal}
use Rattle.wb_syntax.specs.declared.refusals.Refusal.TheVariants.{Syntax, OutOfMemory}
use Rattle.wb_syntax.specs.Tree.{Tree, Number, Label, Here, Minus, Plus, Less, Times}
use Rattle.std.proofs.lemmas.Option.{slice_get_past}
use Rattle.wb_syntax.specs.Expression.{IsExpression, Stands, is_mark_kind, is_this_mark, has_mark, IsExpr, IsTerm, IsAtom, term, minus, plus, less, times, number, label, here, inside}
use Rattle.wb_syntax.specs.Reading.{IsAlone, IsClosing, IsFirst, has_sum_mark, Read, IsReading, IsRefusal, ReadsAtom, ReadsTerm, ReadsFirst, ReadsExpr}
use Rattle.wb_syntax.proofs.Chains.{GoesOn, no_star, no_sum, number_is_no_mark, name_is_no_mark, term_no_minus, atoms_are_one, exprs_are_one, term_stuck, no_atom_no_term, expr_stuck, first_stuck, same_token, one_mark}

not_false_is_true : (b : Bool) → (b ≡ false → ⊥) → b ≡ true
not_false_is_true true h = refl
not_false_is_true false h = absurd (h refl)

pub is_own_mark : (m : ℕ) (token : Token) → token.kind ≡ kind.Mark m → is_mark_kind m token.kind ≡ true
is_own_mark m token is = rw is (eq-eqb m m refl)

mark_is : (tokens : List Token) (s m : ℕ) (token : Token) → Stands tokens s token → token.kind ≡ kind.Mark m → has_mark tokens s m ≡ true
mark_is tokens s m token stands is = rw stands (is_own_mark m token is)

-- and the other way round
mark_kind : (m : ℕ) (found : TokenKind) → is_mark_kind m found ≡ true → found ≡ kind.Mark m
mark_kind m (kind.Mark other) e = ap (λ k. kind.Mark k) (eqb-true other m e)
mark_kind m kind.Name e = cc
mark_kind m (kind.Number k) e = cc
mark_kind m kind.Bad e = cc
mark_kind m kind.LineEnd e = cc

first_of : (a b : Bool) → (a || b) ≡ true → b ≡ false → a ≡ true
first_of true b e none = refl
first_of false b e none = absurd (both_ways b none e)

module _ (text : List ℕ) (tokens : List Token) (depth start : ℕ) where
  pub alone_is : (token : Token) (x : Tree) → Stands tokens start token → IsAlone text token x → IsAtom text tokens depth start (start + 1) x
  alone_is token (Number n) stands is = number depth start (start + 1) n token refl stands is
  alone_is token (Label span) stands is = label depth start (start + 1) span token refl stands is
  alone_is token Here stands is = here depth start (start + 1) refl (mark_is tokens start 36 token stands is)
  alone_is token (Minus x) stands is = absurd is
  alone_is token (Plus x y) stands is = absurd is
  alone_is token (Less x y) stands is = absurd is
  alone_is token (Times x y) stands is = absurd is

  -- an atom of one token
  record Single (x : Tree) : Type 0 where
    token : Token
    stands : Stands tokens start token
    is : IsAlone text token x

  single : (e : ℕ) (x : Tree) → has_mark tokens start 40 ≡ false → IsAtom text tokens depth start e x → Single x
  single e x closed (number _ _ _ n token ends stands is) = record { token = token; stands = stands; is = is }
  single e x closed (label _ _ _ span token ends stands is) = record { token = token; stands = stands; is = is }
  single e x closed (here _ _ _ ends mark) = by (slice_get tokens start) refl mark
    where
      by : (o : Option Token) → slice_get tokens start ≡ o → is_this_mark 36 o ≡ true → Single Here
      by None stands mark = cc
      by (Some token) stands mark = record { token = token; stands = stands; is = mark_kind 36 token.kind mark }
  single e x closed (inside _ _ _ _ _ _ below ends mark is close) = cc

  pub alone_refused : (token : Token) → Stands tokens start token → has_mark tokens start 40 ≡ false → ((x : Tree) → IsAlone text token x → ⊥) → (read : Read) → ReadsAtom text tokens depth start read → ⊥
  alone_refused token stands closed none read is =
      let one = single read.1 read.0 closed is in
      none read.0 (subst (λ t. IsAlone text t read.0) (same_token text tokens start one.token token one.stands stands) one.is)

  -- ---- want of memory, and what is refused

  pub inside_refused : (r : Refusal) → has_mark tokens start 40 ≡ true → 0 < depth → IsRefusal (ReadsExpr text tokens (depth - 1) (start + 1)) r → IsRefusal (ReadsAtom text tokens depth start) r
  inside_refused OutOfMemory opened some refused = tt
  inside_refused Syntax opened some refused = λ read is. by read.1 read.0 is
    where
      by : (e : ℕ) (x : Tree) → IsAtom text tokens depth start e x → ⊥
      by e x (number _ _ _ n token ends stands is) = number_is_no_mark tokens start 40 n token stands is opened
      by e x (label _ _ _ span token ends stands is) = name_is_no_mark tokens start 40 token stands is.is_name opened
      by e x (here _ _ _ ends mark) = let same = one_mark tokens start 36 40 mark opened in absurd (omega arith)
      by e x (inside _ deeper _ close _ _ below ends mark is closed) =
          let level : deeper ≡ depth - 1 = omega arith in
          refused (x, close) (subst (λ d. IsExpr text tokens d (start + 1) close x) level is, no_star tokens close closed, no_sum tokens close closed)

  pub inside_closed : (x : Tree) (close : ℕ) (r : Result Read Refusal) → has_mark tokens start 40 ≡ true → 0 < depth → ReadsExpr text tokens (depth - 1) (start + 1) (x, close) → IsClosing tokens close x r
      → IsReading (ReadsAtom text tokens depth start) r
  inside_closed x close (Ok read) opened some is closing =
      let below : depth ≡ depth - 1 + 1 = omega arith in
      subst (λ y. IsAtom text tokens depth start read.1 y) (sym closing.1) (inside depth (depth - 1) start close read.1 x below closing.2 opened is.0 closing.0)
  inside_closed x close (Err Syntax) opened some is closing = λ read other. by read.1 read.0 other
    where
      by : (e : ℕ) (y : Tree) → IsAtom text tokens depth start e y → ⊥
      by e y (number _ _ _ n token ends stands it) = number_is_no_mark tokens start 40 n token stands it opened
      by e y (label _ _ _ span token ends stands it) = name_is_no_mark tokens start 40 token stands it.is_name opened
      by e y (here _ _ _ ends mark) = let same = one_mark tokens start 36 40 mark opened in absurd (omega arith)
      by e y (inside _ deeper _ close' _ _ below ends mark it closed) =
          let level : deeper ≡ depth - 1 = omega arith in
          let there = subst (λ d. IsExpr text tokens d (start + 1) close' y) level it in
          let same = exprs_are_one text tokens (depth - 1) (start + 1) close' close y x there (no_star tokens close' closed) (no_sum tokens close' closed) is.0 is.1 is.2 in
          both_ways (has_mark tokens close 41) closing (subst (λ k. has_mark tokens k 41 ≡ true) same.0 closed)
  inside_closed x close (Err OutOfMemory) opened some is closing = absurd closing

  pub term_refused : (r : Refusal) → IsRefusal (ReadsAtom text tokens depth start) r → IsRefusal (ReadsTerm text tokens depth start) r
  term_refused OutOfMemory refused = tt
  term_refused Syntax refused = λ read is. no_atom_no_term text tokens depth start read.1 read.0 (λ m z there. refused (z, m) there) is.0

  pub factor_refused : (r : Refusal) (x : Tree) (at : ℕ) → IsTerm text tokens depth start at x → has_mark tokens at 42 ≡ true → IsRefusal (ReadsAtom text tokens depth (at + 1)) r
      → IsRefusal (ReadsTerm text tokens depth start) r
  factor_refused OutOfMemory x at is star refused = tt
  factor_refused Syntax x at is star refused = λ read other.
      both_ways (has_mark tokens read.1 42) other.1
      (term_stuck text tokens depth start at read.1 x read.0 (atoms_are_one text tokens depth) is star (λ m z there. refused (z, m) there) other.0)

  pub minus_refused : (r : Refusal) → has_mark tokens start 45 ≡ true → IsRefusal (ReadsTerm text tokens depth (start + 1)) r → IsRefusal (ReadsFirst text tokens depth start) r
  minus_refused OutOfMemory mark refused = tt
  minus_refused Syntax mark refused = λ read is. by read.1 read.0 is.0 is.1
    where
      by : (e : ℕ) (x : Tree) → IsFirst text tokens depth start e x → has_mark tokens e 42 ≡ false → ⊥
      by e x (inl is) ends = term_no_minus text tokens depth start e x mark is
      by e x (inr is) ends = refused (is.0, e) (is.3, ends)

  pub plain_first : (r : Result Read Refusal) → has_mark tokens start 45 ≡ false → IsReading (ReadsTerm text tokens depth start) r → IsReading (ReadsFirst text tokens depth start) r
  plain_first (Ok read) no_minus is = (inl is.0, is.1)
  plain_first (Err OutOfMemory) no_minus is = tt
  plain_first (Err Syntax) no_minus refused = λ read is. by read.1 read.0 is.0 is.1
    where
      by : (e : ℕ) (x : Tree) → IsFirst text tokens depth start e x → has_mark tokens e 42 ≡ false → ⊥
      by e x (inl is) ends = refused (x, e) (is, ends)
      by e x (inr is) ends = both_ways (has_mark tokens start 45) no_minus is.2

  ends_there : (e : ℕ) → GoesOn text tokens e → has_mark tokens e 42 ≡ false → has_sum_mark tokens e ≡ false → ⊥
  ends_there e (inl star) no_star_there no_sum_there = both_ways (has_mark tokens e 42) no_star_there star
  ends_there e (inr sum) no_star_there no_sum_there = both_ways (has_sum_mark tokens e) no_sum_there sum

  pub expr_refused : (r : Refusal) → IsRefusal (ReadsFirst text tokens depth start) r → IsRefusal (ReadsExpr text tokens depth start) r
  expr_refused OutOfMemory refused = tt
  expr_refused Syntax refused = λ read is.
      ends_there read.1 (first_stuck text tokens depth start read.1 read.0 (λ m z there. not_false_is_true (has_mark tokens m 42) (λ ends. refused (z, m) (there, ends))) is.0) is.1 is.2

  pub summand_refused : (r : Refusal) (x : Tree) (at : ℕ) → IsExpr text tokens depth start at x → has_sum_mark tokens at ≡ true → IsRefusal (ReadsTerm text tokens depth (at + 1)) r
      → IsRefusal (ReadsExpr text tokens depth start) r
  summand_refused OutOfMemory x at is sum refused = tt
  summand_refused Syntax x at is sum refused = λ read other.
      ends_there read.1
      (expr_stuck text tokens depth start at read.1 x read.0 (atoms_are_one text tokens depth) is sum (λ m z there. not_false_is_true (has_mark tokens m 42) (λ ends. refused (z, m) (there, ends))) other.0)
      other.1 other.2

  -- ---- what is read

  pub first_is : (e : ℕ) (x : Tree) → IsFirst text tokens depth start e x → IsExpr text tokens depth start e x
  first_is e x (inl is) = term depth start e x is
  first_is e x (inr is) = subst (λ y. IsExpr text tokens depth start e y) (sym is.1) (minus depth start e is.0 is.2 is.3)

  pub factor_is : (middle end : ℕ) (x y z : Tree) → IsTerm text tokens depth start middle x → has_mark tokens middle 42 ≡ true → IsAtom text tokens depth (middle + 1) end y → z ≡ Times x y
      → IsTerm text tokens depth start end z
  factor_is middle end x y z is star more e = subst (λ v. IsTerm text tokens depth start end v) (sym e) (times depth start middle end x y is star more)

  pub summand_is : (middle end : ℕ) (x y z : Tree) → IsExpr text tokens depth start middle x → has_sum_mark tokens middle ≡ true → IsTerm text tokens depth (middle + 1) end y
      → z ≡ cond (has_mark tokens middle 45) (Less x y) (Plus x y) → IsExpr text tokens depth start end z
  summand_is middle end x y z is sum more e = by (has_mark tokens middle 45) refl e
    where
      by : (b : Bool) → has_mark tokens middle 45 ≡ b → z ≡ cond b (Less x y) (Plus x y) → IsExpr text tokens depth start end z
      by true mark e = subst (λ v. IsExpr text tokens depth start end v) (sym e) (less depth start middle end x y is mark more)
      by false mark e =
          let plus_there : has_mark tokens middle 43 ≡ true = first_of (has_mark tokens middle 43) (has_mark tokens middle 45) sum mark in
          subst (λ v. IsExpr text tokens depth start end v) (sym e) (plus depth start middle end x y is plus_there more)

-- ---- an expression alone

nothing_past : (tokens : List Token) (place mark : ℕ) → length tokens ≤ place → has_mark tokens place mark ≡ false
nothing_past tokens place mark past = rw (slice_get_past tokens place past) refl

no_sum_past : (tokens : List Token) → has_sum_mark tokens (length tokens) ≡ false
no_sum_past tokens = rw (nothing_past tokens (length tokens) 43 (omega arith), nothing_past tokens (length tokens) 45 (omega arith)) refl

pub whole_refused : (text : List ℕ) (tokens : List Token) (r : Refusal) → IsRefusal (ReadsExpr text tokens 16 0) r → IsRefusal (IsExpression text tokens) r
whole_refused text tokens OutOfMemory refused = tt
whole_refused text tokens Syntax refused = λ tree is. refused (tree, length tokens) (is.is, nothing_past tokens (length tokens) 42 (omega arith), no_sum_past tokens)

pub too_short : (text : List ℕ) (tokens : List Token) (x : Tree) (end : ℕ) → ReadsExpr text tokens 16 0 (x, end) → (end ≡ length tokens → ⊥) → (tree : Tree) → IsExpression text tokens tree → ⊥
too_short text tokens x end read short tree is =
    short (exprs_are_one text tokens 16 0 end (length tokens) x tree read.0 read.1 read.2 is.is (nothing_past tokens (length tokens) 42 (omega arith)) (no_sum_past tokens)).0
