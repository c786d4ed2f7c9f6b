-- A clause is read in one way, and clauses make one word.
use Rattle.std.proofs.Common.{◌≡◌, ◌≢◌, ℕ, ◌+◌, ◌<◌, ◌≤◌, ◌⊎◌, inl, inr, Bool, true, false, codes, Option, Some, None, List, [], ◌∷◌, length, get_or, set, sym, refl, ap, ◌∙◌, subst, arith, get_or-set_other, get_or-set_same, length-set}
use Rattle.std.specs.Prelude.{find, bytes_eq}
use Rattle.std.specs.Coded.{le_prop}
use Rattle.std.specs.Char.{digit_char}
use Rattle.std.proofs.lemmas.Bool.{cases_lt, lt-ltb, le-ltb, both_ways}
use Rattle.wb_lex.specs.declared.tokens.Token.{Token}
use Rattle.wb_word.specs.Codes.{alu_list, acc_list, p_list, dst_list, src_list, dpl_list}
use Rattle.wb_word.specs.Names.{alu_name, acc_name, p_name, dst_name, src_name, dpl_name}
use Rattle.wb_word.specs.declared.codes.Alu.{Alu}
use Rattle.wb_word.specs.declared.codes.Alu.TheVariants as alu
use Rattle.wb_word.specs.declared.codes.Acc.{Acc}
use Rattle.wb_word.specs.declared.codes.Acc.TheVariants as acc
use Rattle.wb_word.specs.declared.codes.P.{P}
use Rattle.wb_word.specs.declared.codes.P.TheVariants as p
use Rattle.wb_word.specs.declared.codes.Dst.{Dst}
use Rattle.wb_word.specs.declared.codes.Dst.TheVariants as dst
use Rattle.wb_word.specs.declared.codes.Src.{Src}
use Rattle.wb_word.specs.declared.codes.Src.TheVariants as src
use Rattle.wb_word.specs.declared.codes.Dpl.{Dpl}
use Rattle.wb_word.specs.declared.codes.Dpl.TheVariants as dpl
use Rattle.wb_word.specs.declared.numbers.Nibble.{Nibble}
use Rattle.wb_word.specs.declared.words.OpWord.{OpWord}
use Rattle.wb_syntax.specs.declared.clauses.Clause.{Clause}
use Rattle.wb_syntax.specs.declared.clauses.Clause.TheVariants.{Compute, Move, Step, Modify, Lower}
use Rattle.wb_syntax.specs.declared.separators.Separator.TheVariants.{Bar}
use Rattle.wb_syntax.specs.Separators.{parts}
use Rattle.wb_syntax.specs.Clause.{IsShort, IsLong, IsClause, AreClauses, sort_of, with_clause, with_clauses, empty_word, Lacks, AreApart, AreFields}

-- ---- a name is that of one thing

-- the first of these with a name
abbrev pub named : {A : Type 0} → (A → List ℕ) → List A → List ℕ → Option A
named name all bytes = find (λ x. bytes_eq (name x) bytes) all

named_alu : (x : Alu) → named alu_name alu_list (alu_name x) ≡ Some x
named_alu alu.Nop = refl
named_alu _ = refl

named_acc : (x : Acc) → named acc_name acc_list (acc_name x) ≡ Some x
named_acc acc.A = refl
named_acc _ = refl

named_p : (x : P) → named p_name p_list (p_name x) ≡ Some x
named_p p.Ram = refl
named_p _ = refl

pub named_dst : (x : Dst) → named dst_name dst_list (dst_name x) ≡ Some x
named_dst dst.Non = refl
named_dst _ = refl

named_src : (x : Src) → named src_name src_list (src_name x) ≡ Some x
named_src src.Trb = refl
named_src _ = refl

named_dpl : (x : Dpl) → named dpl_name dpl_list (dpl_name x) ≡ Some x
named_dpl dpl.DpNop = refl
named_dpl _ = refl

pub one_named : {A : Type 0} (name : A → List ℕ) (all : List A) → ((x : A) → named name all (name x) ≡ Some x) → (x y : A) (bytes : List ℕ) → bytes ≡ name x → bytes ≡ name y → x ≡ y
one_named name all found x y bytes e f =
    let a = found x in
    let b = found y in
    let same : named name all (name x) ≡ named name all (name y) = ap (named name all) (sym e ∙ f) in
    cc

-- ---- a clause is read in one way

same_nibble : (x y : Nibble) → x.value ≡ y.value → x ≡ y
same_nibble x y e =
    let built : (n : ℕ) → n < 16 → Nibble = λ n h. record { value = n; in_range = h } in
    let P : ℕ → Type 0 = λ n. (h : n < 16) → x ≡ built n h in
    subst P e (λ h. ap (built x.value) (le_prop x.in_range h)) y.in_range

digits_differ : (m n : ℕ) → m < 16 → n < 16 → digit_char m ≡ digit_char n → m ≡ n
digits_differ m n a b e = by (cases_lt m 10) (cases_lt n 10)
  where
    by : (m < 10) ⊎ (10 ≤ m) → (n < 10) ⊎ (10 ≤ n) → m ≡ n
    by (inl s) (inl t) = let h = rw (lt-ltb m 10 s, lt-ltb n 10 t) at e in omega arith
    by (inl s) (inr t) = let h = rw (lt-ltb m 10 s, le-ltb n 10 t) at e in omega arith
    by (inr s) (inl t) = let h = rw (le-ltb m 10 s, lt-ltb n 10 t) at e in omega arith
    by (inr s) (inr t) = let h = rw (le-ltb m 10 s, le-ltb n 10 t) at e in omega arith

first_byte : List ℕ → ℕ
first_byte bytes = get_or bytes 0 0

dpl_begins : (x : Dpl) → get_or (dpl_name x) 0 0 ≡ 100
dpl_begins dpl.DpNop = refl
dpl_begins _ = refl

one_short : (name : List ℕ) (c d : Clause) → IsShort name c → IsShort name d → c ≡ d
one_short name (Step x) (Step y) a b = ap (λ k. Step k) (one_named dpl_name dpl_list named_dpl x y name a.1 b.1)
one_short name (Step x) (Modify y) a b =
    let wrong = sym (dpl_begins x) ∙ ap (λ bs. get_or bs 0 0) (sym a.1 ∙ b.1) in absurd (omega arith)
one_short name (Step x) Lower a b =
    let wrong = sym (dpl_begins x) ∙ ap (λ bs. get_or bs 0 0) (sym a.1 ∙ b) in absurd (omega arith)
one_short name (Modify x) (Step y) a b =
    let wrong = sym (dpl_begins y) ∙ ap (λ bs. get_or bs 0 0) (sym b.1 ∙ a.1) in absurd (omega arith)
one_short name (Modify x) (Modify y) a b =
    let digit = ap (λ bs. get_or bs 1 0) (sym a.1 ∙ b.1) in
    ap (λ k. Modify k) (same_nibble x y (digits_differ x.value y.value x.in_range y.in_range digit))
one_short name (Modify x) Lower a b = let wrong = ap (λ bs. get_or bs 0 0) (sym a.1 ∙ b) in absurd (omega arith)
one_short name Lower (Step y) a b =
    let wrong = sym (dpl_begins y) ∙ ap (λ bs. get_or bs 0 0) (sym b.1 ∙ a) in absurd (omega arith)
one_short name Lower (Modify y) a b = let wrong = ap (λ bs. get_or bs 0 0) (sym b.1 ∙ a) in absurd (omega arith)
one_short name Lower Lower a b = refl
one_short name (Compute x y z) d a b = absurd a
one_short name (Move x y) d a b = absurd a
one_short name (Step x) (Compute _ _ _) a b = absurd b
one_short name (Step x) (Move _ _) a b = absurd b
one_short name (Modify x) (Compute _ _ _) a b = absurd b
one_short name (Modify x) (Move _ _) a b = absurd b
one_short name Lower (Compute _ _ _) a b = absurd b
one_short name Lower (Move _ _) a b = absurd b

no_alu_moves : (x : Alu) → alu_name x ≡ codes "mov" → ⊥
no_alu_moves x e = let there = sym (named_alu x) ∙ ap (named alu_name alu_list) e in let none : named alu_name alu_list (codes "mov") ≡ None = refl in cc

one_long : (first second third : List ℕ) (c d : Clause) → IsLong first second third c → IsLong first second third d → c ≡ d
one_long first second third (Compute x y z) (Compute x' y' z') a b =
    let e = one_named alu_name alu_list named_alu x x' first a.0 b.0 in
    let f = one_named acc_name acc_list named_acc y y' second a.1 b.1 in
    let g = one_named p_name p_list named_p z z' third a.2 b.2 in
    cc
one_long first second third (Compute x y z) (Move x' y') a b = absurd (no_alu_moves x (sym a.0 ∙ b.0))
one_long first second third (Move x y) (Compute x' y' z') a b = absurd (no_alu_moves x' (sym b.0 ∙ a.0))
one_long first second third (Move x y) (Move x' y') a b =
    let e = one_named dst_name dst_list named_dst x x' second a.1 b.1 in
    let f = one_named src_name src_list named_src y y' third a.2 b.2 in
    cc
one_long first second third (Step x) d a b = absurd a
one_long first second third (Modify x) d a b = absurd a
one_long first second third Lower d a b = absurd a
one_long first second third (Compute x y z) (Step _) a b = absurd b
one_long first second third (Compute x y z) (Modify _) a b = absurd b
one_long first second third (Compute x y z) Lower a b = absurd b
one_long first second third (Move x y) (Step _) a b = absurd b
one_long first second third (Move x y) (Modify _) a b = absurd b
one_long first second third (Move x y) Lower a b = absurd b

pub one_clause : (text : List ℕ) (tokens : List Token) (c d : Clause) → IsClause text tokens c → IsClause text tokens d → c ≡ d
one_clause text [] c d a b = absurd a
one_clause text (word ∷ []) c d a b =
    let other = b.1 in
    one_short a.0 c d a.2 (subst (λ name. IsShort name d) (sym other.same ∙ a.1.same) b.2)
one_clause text (x ∷ y ∷ []) c d a b = absurd a
one_clause text (x ∷ y ∷ z ∷ []) c d a b = absurd a
one_clause text (x ∷ y ∷ comma ∷ z ∷ []) c d a b =
    let names = a.1 in
    let others = b.1 in
    let first : others.0 ≡ names.0 = sym others.3.same ∙ names.3.same in
    let second : others.1 ≡ names.1 = sym others.4.same ∙ names.4.same in
    let third : others.2 ≡ names.2 = sym others.5.same ∙ names.5.same in
    let is = others.6 in
    let moved : IsLong names.0 names.1 names.2 d =
    subst (λ n. IsLong names.0 names.1 n d) third (subst (λ n. IsLong names.0 n others.2 d) second (subst (λ n. IsLong n others.1 others.2 d) first is)) in
    one_long names.0 names.1 names.2 c d names.6 moved
one_clause text (x ∷ y ∷ z ∷ u ∷ v ∷ tokens) c d a b = absurd a

-- ---- the clauses that are left

-- no clause is of a sort that has been
abbrev pub AreFresh : List Bool → List Clause → Type 0
AreFresh seen [] = Unit {0}
AreFresh seen (clause ∷ clauses) = (get_or seen (sort_of clause) false ≡ false) × AreFresh seen clauses

-- these parts make a word of another, where these sorts have been
pub record Left (text : List ℕ) (parts : List (List Token)) (seen : List Bool) (before word : OpWord) : Type 0 where
  pub clauses : List Clause
  pub each : AreClauses text parts clauses
  pub fresh : AreFresh seen clauses
  pub once : AreApart clauses
  pub made : word ≡ with_clauses before clauses

-- what is left makes exactly the words that all tokens make
pub record Reads (text : List ℕ) (tokens : List Token) (left : List (List Token)) (seen : List Bool) (before : OpWord) : Type 0 where
  pub sorts : length seen ≡ 5
  pub sound : (word : OpWord) → Left text left seen before word → AreFields text tokens word
  pub whole : (word : OpWord) → AreFields text tokens word → Left text left seen before word

all_fresh : (clauses : List Clause) → AreFresh (false ∷ false ∷ false ∷ false ∷ false ∷ []) clauses
all_fresh [] = tt
all_fresh (Compute a b c ∷ clauses) = (refl, all_fresh clauses)
all_fresh (Move a b ∷ clauses) = (refl, all_fresh clauses)
all_fresh (Step a ∷ clauses) = (refl, all_fresh clauses)
all_fresh (Modify a ∷ clauses) = (refl, all_fresh clauses)
all_fresh (Lower ∷ clauses) = (refl, all_fresh clauses)

pub begin : (text : List ℕ) (tokens : List Token) (seen : List Bool) (word : OpWord) → seen ≡ false ∷ false ∷ false ∷ false ∷ false ∷ [] → word ≡ empty_word → Reads text tokens (parts Bar tokens) seen word
begin text tokens seen word none empty = record {
  sorts = ap length none;
  sound = λ made left. record { clauses = left.clauses; each = left.each; once = left.once; made = left.made ∙ ap (λ w. with_clauses w left.clauses) empty };
  whole = λ made is. record {
    clauses = is.clauses;
    each = is.each;
    fresh = rw none (all_fresh is.clauses);
    once = is.once;
    made = is.made ∙ ap (λ w. with_clauses w is.clauses) (sym empty);
  };
}

-- a sort more has been
seen_before : (seen : List Bool) (sort : ℕ) (clauses : List Clause) → sort < length seen → AreFresh (set seen sort true) clauses → AreFresh seen clauses × Lacks sort clauses
seen_before seen sort [] within fresh = (tt, tt)
seen_before seen sort (clause ∷ clauses) within fresh =
    let more = seen_before seen sort clauses within fresh.1 in
    let differ : sort_of clause ≢ sort = λ e. both_ways (get_or (set seen sort true) (sort_of clause) false) fresh.0 (ap (λ k. get_or (set seen sort true) k false) e ∙ get_or-set_same seen sort true false within) in
    ((sym (get_or-set_other seen sort (sort_of clause) true false differ) ∙ fresh.0, more.0), (differ, more.1))

seen_after : (seen : List Bool) (sort : ℕ) (clauses : List Clause) → AreFresh seen clauses → Lacks sort clauses → AreFresh (set seen sort true) clauses
seen_after seen sort [] fresh lacks = tt
seen_after seen sort (clause ∷ clauses) fresh lacks =
    (get_or-set_other seen sort (sort_of clause) true false lacks.0 ∙ fresh.0, seen_after seen sort clauses fresh.1 lacks.1)

module _ (text : List ℕ) (tokens part : List Token) (left : List (List Token)) (seen : List Bool) (before : OpWord) (reads : Reads text tokens (part ∷ left) seen before) where
  pub next : (clause : Clause) → IsClause text part clause → sort_of clause < 5 → get_or seen (sort_of clause) false ≡ false → Reads text tokens left (set seen (sort_of clause) true) (with_clause before clause)
  next clause is small fresh =
      let sorts = reads.sorts in
      let within : sort_of clause < length seen = omega arith in
      record {
        sorts = length-set seen (sort_of clause) true ∙ sorts;
        sound = λ word more.
            let apart = seen_before seen (sort_of clause) more.clauses within more.fresh in
            reads.sound word (record { clauses = clause ∷ more.clauses; each = (is, more.each); fresh = (fresh, apart.0); once = (apart.1, more.once); made = more.made });
        whole = λ word all. first (reads.whole word all);
      }
    where
      by : (clauses : List Clause) (word : OpWord) → AreClauses text (part ∷ left) clauses → AreFresh seen clauses → AreApart clauses → word ≡ with_clauses before clauses
          → Left text left (set seen (sort_of clause) true) (with_clause before clause) word
      by [] word each fresh once made = absurd each
      by (c ∷ clauses) word each fresh once made =
          let same : c ≡ clause = one_clause text part c clause each.0 is in
          record {
            clauses = clauses;
            each = each.1;
            fresh = seen_after seen (sort_of clause) clauses fresh.1 (subst (λ k. Lacks (sort_of k) clauses) same once.0);
            once = once.1;
            made = made ∙ ap (λ k. with_clauses (with_clause before k) clauses) same;
          }

      first : {word : OpWord} → Left text (part ∷ left) seen before word → Left text left (set seen (sort_of clause) true) (with_clause before clause) word
      first {word} all = by all.clauses word all.each all.fresh all.once all.made

  pub no_clause : ((clause : Clause) → IsClause text part clause → ⊥) → (word : OpWord) → AreFields text tokens word → ⊥
  no_clause none word is = let all = reads.whole word is in by all.clauses all.each
    where
      by : (clauses : List Clause) → AreClauses text (part ∷ left) clauses → ⊥
      by [] each = each
      by (c ∷ clauses) each = none c each.0

  pub twice : (clause : Clause) → IsClause text part clause → get_or seen (sort_of clause) false ≡ true → (word : OpWord) → AreFields text tokens word → ⊥
  twice clause is been word fields = let all = reads.whole word fields in by all.clauses all.each all.fresh
    where
      by : (clauses : List Clause) → AreClauses text (part ∷ left) clauses → AreFresh seen clauses → ⊥
      by [] each fresh = each
      by (c ∷ clauses) each fresh =
          let same : c ≡ clause = one_clause text part c clause each.0 is in
          both_ways (get_or seen (sort_of clause) false) (subst (λ k. get_or seen (sort_of k) false ≡ false) same fresh.0) been

pub ended : (text : List ℕ) (tokens : List Token) (seen : List Bool) (word : OpWord) → Reads text tokens [] seen word → AreFields text tokens word
ended text tokens seen word reads = reads.sound word (record { clauses = []; each = tt; fresh = tt; once = tt; made = refl })

-- a number that falls as tokens are read
abbrev pub tokens_left : Option (List Token) → ℕ
tokens_left None = 0
tokens_left (Some tokens) = length tokens + 1

-- the word whose fields are all 0, from its parts
abbrev pub of_zeros : 0 < 16 → OpWord
of_zeros within = record {
  p = p.Ram;
  alu = alu.Nop;
  acc = acc.A;
  dpl = dpl.DpNop;
  dphm = record { value = 0; in_range = within };
  rpdec = false;
  src = src.Trb;
  dst = dst.Non;
}

pub zero_word : (within : 0 < 16) → of_zeros within ≡ empty_word
zero_word within = ap of_zeros (le_prop within empty_word.dphm.in_range)
