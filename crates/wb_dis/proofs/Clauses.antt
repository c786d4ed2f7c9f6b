-- The clauses of an operation, as its canonical line spells them and as the grammar reads them.
use Rattle.std.proofs.Common.{◌≡◌, ◌≢◌, ℕ, ◌+◌, ◌<◌, ◌≤◌, ◌==◌, Bool, true, false, not, if◌then◌else◌, List, [], ◌∷◌, ◌++◌, map, codes, Option, Some, None, refl, sym, ap, ◌∙◌, subst, arith, append_assoc, append-nil, lit≤}
use Rattle.std.specs.Char.{digit_char}
use Rattle.std.specs.List.{join_by}
use Rattle.std.specs.Option.{option_to_list}
use Rattle.std.proofs.lemmas.Bool.Decides.{nat_tests}
use Rattle.wb_lex.specs.Characters.{is_word_character}
use Rattle.wb_lex.specs.Pieces.{begins, bytes_of}
use Rattle.wb_syntax.specs.Clause.{sort_of, with_clause, with_clauses, empty_word}
use Rattle.wb_syntax.specs.declared.clauses.Clause.{Clause}
use Rattle.wb_syntax.specs.declared.clauses.Clause.TheVariants.{Compute, Move, Step, Modify, Lower}
use Rattle.wb_word.specs.Codes.{p_code, alu_code, acc_code, dpl_code, src_code, dst_code}
use Rattle.wb_word.specs.Encoding.{bit, fields}
use Rattle.wb_word.specs.Names.{p_name, alu_name, acc_name, dpl_name, src_name, dst_name}
use Rattle.wb_word.specs.declared.codes.Dpl.{Dpl}
use Rattle.wb_word.specs.declared.codes.Dpl.TheVariants.{DpNop, DpInc, DpDec, DpClr}
use Rattle.wb_word.specs.declared.words.OpWord.{OpWord}
use Rattle.wb_dis.specs.Line as line
use Rattle.wb_dis.proofs.Grammar.{clause_parts, joined, operation_parts, IsTold, AreTold, Ascends}
use Rattle.wb_dis.proofs.Parts.{Part, Named, Marked, Gap, piece_of, text_of, IsPart, AreParts}
use Rattle.wb_dis.proofs.Words.{IsName, alu_named, acc_named, p_named, src_named, dst_named, dpl_named, modify_named}

abbrev pub compute_of : OpWord → Option Clause
compute_of o = if alu_code o.alu + p_code o.p + acc_code o.acc == 0 then None else Some (Compute o.alu o.acc o.p)

abbrev pub move_of : OpWord → Option Clause
move_of o = if src_code o.src + dst_code o.dst == 0 then None else Some (Move o.dst o.src)

abbrev pub step_of : OpWord → Option Clause
step_of o = if dpl_code o.dpl == 0 then None else Some (Step o.dpl)

abbrev pub modify_of : OpWord → Option Clause
modify_of o = if o.dphm.value == 0 then None else Some (Modify o.dphm)

abbrev pub lower_of : OpWord → Option Clause
lower_of o = if o.rpdec then Some Lower else None

abbrev no_compute : OpWord → Bool
no_compute o = alu_code o.alu + p_code o.p + acc_code o.acc == 0

abbrev no_move : OpWord → Bool
no_move o = src_code o.src + dst_code o.dst == 0

abbrev no_step : OpWord → Bool
no_step o = dpl_code o.dpl == 0

abbrev no_modify : OpWord → Bool
no_modify o = o.dphm.value == 0

-- the clauses that aren't left out, from the last sort up
abbrev from_lower : OpWord → List Clause
from_lower o = option_to_list (lower_of o) ++ []

abbrev from_modify : OpWord → List Clause
from_modify o = option_to_list (modify_of o) ++ from_lower o

abbrev from_step : OpWord → List Clause
from_step o = option_to_list (step_of o) ++ from_modify o

abbrev from_move : OpWord → List Clause
from_move o = option_to_list (move_of o) ++ from_step o

-- all clauses that aren't left out
abbrev pub listed : OpWord → List Clause
listed o = option_to_list (compute_of o) ++ from_move o

abbrev clause_text : Clause → List ℕ
clause_text clause = text_of (clause_parts clause)

one_text : (b : Bool) (t : List ℕ) (c : Clause) (ts : List (List ℕ)) (cs : List Clause) → t ≡ clause_text c → ts ≡ map clause_text cs
    → option_to_list (if b then None else Some t) ++ ts ≡ map clause_text (option_to_list (if b then None else Some c) ++ cs)
one_text true t c ts cs e f = f
one_text false t c ts cs e f = ap (λ (x : List ℕ). x ∷ ts) e ∙ ap (λ (xs : List (List ℕ)). clause_text c ∷ xs) f

last_text : (b : Bool) → option_to_list (if b then Some (codes "rpdec") else None) ++ [] ≡ map clause_text (option_to_list (if b then Some Lower else None) ++ [])
last_text true = refl
last_text false = refl

texts : (o : OpWord) → line.clauses o ≡ map clause_text (listed o)
texts o =
    one_text (alu_code o.alu + p_code o.p + acc_code o.acc == 0) (alu_name o.alu ++ codes " " ++ acc_name o.acc ++ codes "," ++ p_name o.p)
    (Compute o.alu o.acc o.p) _ _ (simp (append_assoc, append-nil))
    (one_text (src_code o.src + dst_code o.dst == 0) (codes "mov " ++ dst_name o.dst ++ codes "," ++ src_name o.src)
    (Move o.dst o.src) _ _ (simp (append_assoc, append-nil))
    (one_text _ _ (Step o.dpl) _ _ (sym (append-nil (dpl_name o.dpl)))
    (one_text _ _ (Modify o.dphm) _ _ refl (last_text o.rpdec))))

text_append : (first second : List Part) → text_of (first ++ second) ≡ text_of first ++ text_of second
text_append [] second = refl
text_append (part ∷ first) second =
    ap (λ (t : List ℕ). bytes_of (piece_of part) ++ t) (text_append first second) ∙ sym (append_assoc (bytes_of (piece_of part)) (text_of first) (text_of second))

joined_text : (c : Clause) (cs : List Clause) → text_of (joined c cs) ≡ join_by (λ text. text) (codes " | ") (map clause_text (c ∷ cs))
joined_text c [] = sym (append-nil (clause_text c))
joined_text c (d ∷ ds) =
    text_append (clause_parts c) (Gap ∷ Marked 124 ∷ Gap ∷ joined d ds)
    ∙ ap (λ (t : List ℕ). clause_text c ++ 32 ∷ 124 ∷ 32 ∷ t) (joined_text d ds)

operation_text : (name : List ℕ) (cs : List Clause) → text_of (operation_parts name cs) ≡ line.with_clauses name (map clause_text cs)
operation_text name [] = append-nil name
operation_text name (c ∷ cs) = ap (λ (t : List ℕ). name ++ 32 ∷ t) (joined_text c cs)
    ∙ sym (append_assoc name (32 ∷ []) (join_by (λ text. text) (codes " | ") (map clause_text (c ∷ cs))))

-- the canonical line of an operation is its parts
pub operation_spelled : (name : List ℕ) (o : OpWord) → text_of (operation_parts name (listed o)) ≡ line.with_clauses name (line.clauses o)
operation_spelled name o = operation_text name (listed o) ∙ ap (λ (ts : List (List ℕ)). line.with_clauses name ts) (sym (texts o))

-- a text that doesn't go on with a word
abbrev pub IsApart : List ℕ → Type 0
IsApart rest = begins is_word_character rest ≡ false

named_part : (word rest : List ℕ) → IsName word → IsApart rest → IsPart (Named word) rest
named_part word rest h apart = ((h.whole, ap not apart), h.named)

parts_append : (first second : List Part) (rest : List ℕ) → AreParts first (text_of second ++ rest) → AreParts second rest → AreParts (first ++ second) rest
parts_append [] second rest h k = k
parts_append (part ∷ first) second rest h k = (
  subst (λ (t : List ℕ). IsPart part t) (sym (ap (λ (t : List ℕ). t ++ rest) (text_append first second) ∙ append_assoc (text_of first) (text_of second) rest)) h.0,
  parts_append first second rest h.1 k,
)

clause_valid : (c : Clause) (rest : List ℕ) → IsApart rest → AreParts (clause_parts c) rest
clause_valid (Compute alu acc p) rest apart = (
  named_part (alu_name alu) (text_of (Gap ∷ Named (acc_name acc) ∷ Marked 44 ∷ Named (p_name p) ∷ []) ++ rest) (alu_named alu) refl,
  (
    tt,
    (
      named_part (acc_name acc) (text_of (Marked 44 ∷ Named (p_name p) ∷ []) ++ rest) (acc_named acc) refl,
      (refl, (named_part (p_name p) (text_of [] ++ rest) (p_named p) apart, tt)),
    ),
  ),
)
clause_valid (Move dst src) rest apart = (
  named_part (codes "mov") (text_of (Gap ∷ Named (dst_name dst) ∷ Marked 44 ∷ Named (src_name src) ∷ []) ++ rest) (record { whole = refl; named = refl }) refl,
  (
    tt,
    (
      named_part (dst_name dst) (text_of (Marked 44 ∷ Named (src_name src) ∷ []) ++ rest) (dst_named dst) refl,
      (refl, (named_part (src_name src) (text_of [] ++ rest) (src_named src) apart, tt)),
    ),
  ),
)
clause_valid (Step dpl) rest apart = (named_part (dpl_name dpl) rest (dpl_named dpl) apart, tt)
clause_valid (Modify nibble) rest apart = (named_part (109 ∷ digit_char nibble.value ∷ []) rest (modify_named nibble.value nibble.in_range) apart, tt)
clause_valid Lower rest apart = (named_part (codes "rpdec") rest (record { whole = refl; named = refl }) apart, tt)

joined_valid : (c : Clause) (cs : List Clause) (rest : List ℕ) → IsApart rest → AreParts (joined c cs) rest
joined_valid c [] rest apart = clause_valid c rest apart
joined_valid c (d ∷ ds) rest apart =
    parts_append (clause_parts c) (Gap ∷ Marked 124 ∷ Gap ∷ joined d ds) rest
    (clause_valid c (text_of (Gap ∷ Marked 124 ∷ Gap ∷ joined d ds) ++ rest) refl) (tt, (refl, (tt, joined_valid d ds rest apart)))

pub operation_valid : (name : List ℕ) (cs : List Clause) (rest : List ℕ) → IsName name → IsApart rest → AreParts (operation_parts name cs) rest
operation_valid name [] rest h apart = (named_part name rest h apart, tt)
operation_valid name (c ∷ cs) rest h apart = (named_part name (text_of (Gap ∷ joined c cs) ++ rest) h refl, (tt, joined_valid c cs rest apart))

-- the clauses that aren't left out say something
told_more : (b : Bool) (c : Clause) (cs : List Clause) → (b ≡ false → IsTold c) → AreTold cs → AreTold (option_to_list (if b then None else Some c) ++ cs)
told_more true c cs h k = k
told_more false c cs h k = (h refl, k)

told_last : (b : Bool) → AreTold (option_to_list (if b then Some Lower else None) ++ [])
told_last true = (tt, tt)
told_last false = tt

step_told : (dpl : Dpl) → (dpl_code dpl == 0) ≡ false → dpl ≢ DpNop
step_told DpNop h e = cc
step_told DpInc h e = cc
step_told DpDec h e = cc
step_told DpClr h e = cc

modify_told : (n : ℕ) → (n == 0) ≡ false → 0 < n
modify_told n h = grind (arith, nat_tests)

pub listed_told : (o : OpWord) → AreTold (listed o)
listed_told o =
    told_more (no_compute o) (Compute o.alu o.acc o.p) (from_move o) (λ h. tt)
    (told_more (no_move o) (Move o.dst o.src) (from_step o) (λ h. tt)
    (told_more (no_step o) (Step o.dpl) (from_modify o) (step_told o.dpl)
    (told_more (no_modify o) (Modify o.dphm) (from_lower o) (modify_told o.dphm.value) (told_last o.rpdec))))

-- and each sort stands once
rises : (least more : ℕ) (cs : List Clause) → least ≤ more → Ascends more cs → Ascends least cs
rises least more [] h k = tt
rises least more (c ∷ cs) h k = let first = k.0 in (omega arith, k.1)

ascends_more : (b : Bool) (c : Clause) (cs : List Clause) → Ascends (sort_of c + 1) cs → Ascends (sort_of c) (option_to_list (if b then None else Some c) ++ cs)
ascends_more true c cs h = rises (sort_of c) (sort_of c + 1) cs (omega arith) h
ascends_more false c cs h = (omega arith, h)

ascends_last : (b : Bool) → Ascends 4 (option_to_list (if b then Some Lower else None) ++ [])
ascends_last true = (lit≤ tt, tt)
ascends_last false = tt

pub listed_ascends : (o : OpWord) → Ascends 0 (listed o)
listed_ascends o =
    ascends_more (no_compute o) (Compute o.alu o.acc o.p) (from_move o)
    (ascends_more (no_move o) (Move o.dst o.src) (from_step o)
    (ascends_more (no_step o) (Step o.dpl) (from_modify o) (ascends_more (no_modify o) (Modify o.dphm) (from_lower o) (ascends_last o.rpdec))))

-- the codes of the fields of a word
record Codes (w : OpWord) (p alu acc dpl dphm rpdec src dst : ℕ) : Type 0 where
  is_p : p_code w.p ≡ p
  is_alu : alu_code w.alu ≡ alu
  is_acc : acc_code w.acc ≡ acc
  is_dpl : dpl_code w.dpl ≡ dpl
  is_dphm : w.dphm.value ≡ dphm
  is_rpdec : bit w.rpdec ≡ rpdec
  is_src : src_code w.src ≡ src
  is_dst : dst_code w.dst ≡ dst

sum_codes : (w o : OpWord) → Codes w (p_code o.p) (alu_code o.alu) (acc_code o.acc) (dpl_code o.dpl) o.dphm.value (bit o.rpdec) (src_code o.src) (dst_code o.dst)
    → fields w ≡ fields o
sum_codes w o c = rw (c.is_p, c.is_alu, c.is_acc, c.is_dpl, c.is_dphm, c.is_rpdec, c.is_src, c.is_dst)

with_append : (w : OpWord) (first second : List Clause) → with_clauses w (first ++ second) ≡ with_clauses (with_clauses w first) second
with_append w [] second = refl
with_append w (c ∷ first) second = with_append (with_clause w c) first second

equal_from : (a b : ℕ) → (a == b) ≡ true → a ≡ b
equal_from a b h = grind (arith, nat_tests)

zero_sum : (a b c : ℕ) → (a + b + c == 0) ≡ true → (0 ≡ a) × (0 ≡ b) × (0 ≡ c)
zero_sum a b c h = let sum = equal_from (a + b + c) 0 h in (omega arith, omega arith, omega arith)

zero_pair : (a b : ℕ) → (a + b == 0) ≡ true → (0 ≡ a) × (0 ≡ b)
zero_pair a b h = let sum = equal_from (a + b) 0 h in (omega arith, omega arith)

after_compute : (b : Bool) (w o : OpWord) (d m r s t : ℕ) → no_compute o ≡ b → Codes w 0 0 0 d m r s t
    → Codes (with_clauses w (option_to_list (if b then None else Some (Compute o.alu o.acc o.p)))) (p_code o.p) (alu_code o.alu) (acc_code o.acc) d m r s t
after_compute true w o d m r s t e c =
    let zeros = zero_sum (alu_code o.alu) (p_code o.p) (acc_code o.acc) e in
    record {
      is_p = c.is_p ∙ zeros.1;
      is_alu = c.is_alu ∙ zeros.0;
      is_acc = c.is_acc ∙ zeros.2;
      is_dpl = c.is_dpl;
      is_dphm = c.is_dphm;
      is_rpdec = c.is_rpdec;
      is_src = c.is_src;
      is_dst = c.is_dst;
    }
after_compute false w o d m r s t e c = record {
  is_p = refl;
  is_alu = refl;
  is_acc = refl;
  is_dpl = c.is_dpl;
  is_dphm = c.is_dphm;
  is_rpdec = c.is_rpdec;
  is_src = c.is_src;
  is_dst = c.is_dst;
}

after_move : (b : Bool) (w o : OpWord) (p a q d m r : ℕ) → no_move o ≡ b → Codes w p a q d m r 0 0
    → Codes (with_clauses w (option_to_list (if b then None else Some (Move o.dst o.src)))) p a q d m r (src_code o.src) (dst_code o.dst)
after_move true w o p a q d m r e c =
    let zeros = zero_pair (src_code o.src) (dst_code o.dst) e in
    record {
      is_p = c.is_p;
      is_alu = c.is_alu;
      is_acc = c.is_acc;
      is_dpl = c.is_dpl;
      is_dphm = c.is_dphm;
      is_rpdec = c.is_rpdec;
      is_src = c.is_src ∙ zeros.0;
      is_dst = c.is_dst ∙ zeros.1;
    }
after_move false w o p a q d m r e c = record {
  is_p = c.is_p;
  is_alu = c.is_alu;
  is_acc = c.is_acc;
  is_dpl = c.is_dpl;
  is_dphm = c.is_dphm;
  is_rpdec = c.is_rpdec;
  is_src = refl;
  is_dst = refl;
}

after_step : (b : Bool) (w o : OpWord) (p a q m r s t : ℕ) → no_step o ≡ b → Codes w p a q 0 m r s t
    → Codes (with_clauses w (option_to_list (if b then None else Some (Step o.dpl)))) p a q (dpl_code o.dpl) m r s t
after_step true w o p a q m r s t e c = record {
  is_p = c.is_p;
  is_alu = c.is_alu;
  is_acc = c.is_acc;
  is_dpl = c.is_dpl ∙ sym (equal_from (dpl_code o.dpl) 0 e);
  is_dphm = c.is_dphm;
  is_rpdec = c.is_rpdec;
  is_src = c.is_src;
  is_dst = c.is_dst;
}
after_step false w o p a q m r s t e c = record {
  is_p = c.is_p;
  is_alu = c.is_alu;
  is_acc = c.is_acc;
  is_dpl = refl;
  is_dphm = c.is_dphm;
  is_rpdec = c.is_rpdec;
  is_src = c.is_src;
  is_dst = c.is_dst;
}

after_modify : (b : Bool) (w o : OpWord) (p a q d r s t : ℕ) → no_modify o ≡ b → Codes w p a q d 0 r s t
    → Codes (with_clauses w (option_to_list (if b then None else Some (Modify o.dphm)))) p a q d o.dphm.value r s t
after_modify true w o p a q d r s t e c = record {
  is_p = c.is_p;
  is_alu = c.is_alu;
  is_acc = c.is_acc;
  is_dpl = c.is_dpl;
  is_dphm = c.is_dphm ∙ sym (equal_from o.dphm.value 0 e);
  is_rpdec = c.is_rpdec;
  is_src = c.is_src;
  is_dst = c.is_dst;
}
after_modify false w o p a q d r s t e c = record {
  is_p = c.is_p;
  is_alu = c.is_alu;
  is_acc = c.is_acc;
  is_dpl = c.is_dpl;
  is_dphm = refl;
  is_rpdec = c.is_rpdec;
  is_src = c.is_src;
  is_dst = c.is_dst;
}

after_lower : (b : Bool) (w : OpWord) (p a q d m s t : ℕ) → Codes w p a q d m 0 s t
    → Codes (with_clauses w (option_to_list (if b then Some Lower else None) ++ [])) p a q d m (bit b) s t
after_lower true w p a q d m s t c = record {
  is_p = c.is_p;
  is_alu = c.is_alu;
  is_acc = c.is_acc;
  is_dpl = c.is_dpl;
  is_dphm = c.is_dphm;
  is_rpdec = refl;
  is_src = c.is_src;
  is_dst = c.is_dst;
}
after_lower false w p a q d m s t c = c

empty_codes : Codes empty_word 0 0 0 0 0 0 0 0
empty_codes = record {
  is_p = refl;
  is_alu = refl;
  is_acc = refl;
  is_dpl = refl;
  is_dphm = refl;
  is_rpdec = refl;
  is_src = refl;
  is_dst = refl;
}

split_off : (w : OpWord) (first second : List Clause) (p a q d m r s t : ℕ) → Codes (with_clauses (with_clauses w first) second) p a q d m r s t
    → Codes (with_clauses w (first ++ second)) p a q d m r s t
split_off w first second p a q d m r s t c = subst (λ (v : OpWord). Codes v p a q d m r s t) (sym (with_append w first second)) c

-- the clauses that aren't left out make the word
pub listed_makes : (o : OpWord) → fields (with_clauses empty_word (listed o)) ≡ fields o
listed_makes o =
    let w1 = with_clauses empty_word (option_to_list (compute_of o)) in
    let c1 = after_compute (no_compute o) empty_word o 0 0 0 0 0 refl empty_codes in
    let w2 = with_clauses w1 (option_to_list (move_of o)) in
    let c2 = after_move (no_move o) w1 o (p_code o.p) (alu_code o.alu) (acc_code o.acc) 0 0 0 refl c1 in
    let w3 = with_clauses w2 (option_to_list (step_of o)) in
    let c3 = after_step (no_step o) w2 o (p_code o.p) (alu_code o.alu) (acc_code o.acc) 0 0 (src_code o.src) (dst_code o.dst) refl c2 in
    let w4 = with_clauses w3 (option_to_list (modify_of o)) in
    let c4 = after_modify (no_modify o) w3 o (p_code o.p) (alu_code o.alu) (acc_code o.acc) (dpl_code o.dpl) 0 (src_code o.src) (dst_code o.dst) refl c3 in
    let c5 = after_lower o.rpdec w4 (p_code o.p) (alu_code o.alu) (acc_code o.acc) (dpl_code o.dpl) o.dphm.value (src_code o.src) (dst_code o.dst) c4 in
    sum_codes (with_clauses empty_word (listed o)) o
    (split_off empty_word (option_to_list (compute_of o)) (from_move o) _ _ _ _ _ _ _ _
    (split_off w1 (option_to_list (move_of o)) (from_step o) _ _ _ _ _ _ _ _
    (split_off w2 (option_to_list (step_of o)) (from_modify o) _ _ _ _ _ _ _ _
    (split_off w3 (option_to_list (modify_of o)) (from_lower o) _ _ _ _ _ _ _ _ c5))))
