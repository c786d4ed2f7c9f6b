-- A line grows clause by clause to the mnemonic with its clauses, and stays short.
use Rattle.std.proofs.Common.{◌≡◌, ℕ, ◌+◌, ◌≤◌, Bool, true, false, if◌then◌else◌, List, [], ◌∷◌, ◌++◌, length, codes, Option, Some, None, refl, ap, ◌∙◌, arith, append-nil, append_assoc, length-append, lit≤}
use Rattle.std.specs.List.{join_by}
use Rattle.std.specs.Option.{option_to_list}
use Rattle.std.proofs.lemmas.Grind.{common_steps}
use Rattle.wb_word.specs.declared.words.OpWord.{OpWord}
use Rattle.wb_word.specs.Names.{p_name, alu_name, acc_name, dpl_name, src_name, dst_name}
use Rattle.wb_dis.specs.Line.{m_name, alu_clause, move_clause, dp_clause, m_clause, rp_clause, clauses, with_clauses}
use Rattle.wb_dis.specs.Steps.{lead, and_clause}
use Rattle.wb_dis.proofs.NameLengths.{p_name-short, alu_name-short, acc_name-short, dpl_name-short, src_name-short, dst_name-short}

abbrev bar : List ℕ
bar = codes " | "

abbrev listed : List (List ℕ) → List ℕ
listed cs = join_by (λ text. text) bar cs

listed_more : (d : List ℕ) (ds : List (List ℕ)) (x : List ℕ) → listed ((d ∷ ds) ++ x ∷ []) ≡ listed (d ∷ ds) ++ (bar ++ x)
listed_more d ds x = grind (arith, common_steps)

lead_first : (name : List ℕ) → length name ≡ 2 → lead name ≡ codes " "
lead_first name two = rw two

lead_later : (name rest : List ℕ) → length name ≡ 2 → lead (name ++ codes " " ++ rest) ≡ bar
lead_later name rest two = grind (arith, common_steps)

pub grown : (name : List ℕ) (cs : List (List ℕ)) (c : Option (List ℕ)) → length name ≡ 2
    → and_clause (with_clauses name cs) c ≡ with_clauses name (cs ++ option_to_list c)
unfolding and_clause
grown name cs None two = rw append-nil
grown name [] (Some x) two = rw (lead_first name two, append-nil)
grown name (d ∷ ds) (Some x) two =
    rw (lead_later name (listed (d ∷ ds)) two, listed_more d ds x)
    (grind (arith, common_steps))

pub grown_all : (name : List ℕ) (c1 c2 c3 c4 c5 : Option (List ℕ)) → length name ≡ 2
    → and_clause (and_clause (and_clause (and_clause (and_clause name c1) c2) c3) c4) c5
    ≡ with_clauses name (option_to_list c1 ++ (option_to_list c2 ++ (option_to_list c3 ++ (option_to_list c4 ++ (option_to_list c5 ++ [])))))
grown_all name c1 c2 c3 c4 c5 two =
    ap (λ line. and_clause (and_clause (and_clause (and_clause line c2) c3) c4) c5) (grown name [] c1 two)
    ∙ ap (λ line. and_clause (and_clause (and_clause line c3) c4) c5) (grown name (option_to_list c1) c2 two)
    ∙ ap (λ line. and_clause (and_clause line c4) c5) (grown name (option_to_list c1 ++ option_to_list c2) c3 two)
    ∙ ap (λ line. and_clause line c5) (grown name ((option_to_list c1 ++ option_to_list c2) ++ option_to_list c3) c4 two)
    ∙ grown name (((option_to_list c1 ++ option_to_list c2) ++ option_to_list c3) ++ option_to_list c4) c5 two
    ∙ ap (with_clauses name) (simp (append_assoc, append-nil))

-- what a clause adds to a line at most
abbrev cost : Option (List ℕ) → ℕ
cost None = 0
cost (Some clause) = 3 + length clause

abbrev costs : List (List ℕ) → ℕ
costs [] = 0
costs (clause ∷ cs) = 3 + length clause + costs cs

costs_more : (c : Option (List ℕ)) (cs : List (List ℕ)) → costs (option_to_list c ++ cs) ≡ cost c + costs cs
costs_more None cs = omega arith
costs_more (Some clause) cs = refl

listed_length : (c : List ℕ) (cs : List (List ℕ)) → length (listed (c ∷ cs)) + 3 ≡ costs (c ∷ cs)
listed_length c [] = grind (arith, common_steps)
listed_length c (d ∷ cs) = let rest = listed_length d cs in grind (arith, common_steps)

with_clauses-short : (name : List ℕ) (cs : List (List ℕ)) (n : ℕ) → length name ≡ 2 → costs cs ≤ n → 3 ≤ n → length (with_clauses name cs) ≤ n
with_clauses-short name [] n two h m = omega arith
with_clauses-short name (c ∷ cs) n two h m =
    let k = listed_length c cs in
    let whole = length-append (name ++ codes " ") (listed (c ∷ cs)) in
    let front = length-append name (codes " ") in
    omega arith

cost_where : (b : Bool) (clause : List ℕ) (n : ℕ) → length clause ≤ n → cost (if b then None else Some clause) ≤ n + 3
cost_where true clause n h = omega arith
cost_where false clause n h = omega arith

cost_unless : (b : Bool) (clause : List ℕ) (n : ℕ) → length clause ≤ n → cost (if b then Some clause else None) ≤ n + 3
cost_unless true clause n h = omega arith
cost_unless false clause n h = omega arith

alu_short : (o : OpWord) → cost (alu_clause o) ≤ 13
alu_short o =
    cost_where _ (alu_name o.alu ++ codes " " ++ acc_name o.acc ++ codes "," ++ p_name o.p) 10
    (simp length-append (omega (arith, alu_name-short o.alu, acc_name-short o.acc, p_name-short o.p)))

move_short : (o : OpWord) → cost (move_clause o) ≤ 15
move_short o =
    cost_where _ (codes "mov " ++ dst_name o.dst ++ codes "," ++ src_name o.src) 12
    (simp length-append (omega (arith, dst_name-short o.dst, src_name-short o.src)))

dp_short : (o : OpWord) → cost (dp_clause o) ≤ 8
dp_short o = cost_where _ (dpl_name o.dpl) 5 (dpl_name-short o.dpl)

m_short : (o : OpWord) → cost (m_clause o) ≤ 5
m_short o = cost_where _ (m_name o.dphm.value) 2 (lit≤ tt)

rp_short : (o : OpWord) → cost (rp_clause o) ≤ 8
rp_short o = cost_unless o.rpdec (codes "rpdec") 5 (lit≤ tt)

-- the longest is `op xchg a,idb | mov trb,drnf | dpclr | m1 | rpdec`
pub operation-short : (name : List ℕ) (o : OpWord) → length name ≡ 2 → length (with_clauses name (clauses o)) ≤ 49
operation-short name o two =
    with_clauses-short name (clauses o) 49 two
    (let e1 = costs_more (alu_clause o) (option_to_list (move_clause o) ++ (option_to_list (dp_clause o) ++ (option_to_list (m_clause o) ++ (option_to_list (rp_clause o) ++ [])))) in
    let e2 = costs_more (move_clause o) (option_to_list (dp_clause o) ++ (option_to_list (m_clause o) ++ (option_to_list (rp_clause o) ++ []))) in
    let e3 = costs_more (dp_clause o) (option_to_list (m_clause o) ++ (option_to_list (rp_clause o) ++ [])) in
    let e4 = costs_more (m_clause o) (option_to_list (rp_clause o) ++ []) in
    let e5 = costs_more (rp_clause o) [] in
    let n1 = alu_short o in let n2 = move_short o in let n3 = dp_short o in let n4 = m_short o in let n5 = rp_short o in
    omega arith)
    (lit≤ tt)

-- the lines that come one after the other
pub operation_text : (name l0 l1 l2 l3 l4 l5 : List ℕ) (o : OpWord) → length name ≡ 2 → l0 ≡ name
    → l1 ≡ and_clause l0 (alu_clause o) → l2 ≡ and_clause l1 (move_clause o) → l3 ≡ and_clause l2 (dp_clause o)
    → l4 ≡ and_clause l3 (m_clause o) → l5 ≡ and_clause l4 (rp_clause o) → l5 ≡ with_clauses name (clauses o)
operation_text name l0 l1 l2 l3 l4 l5 o two e0 e1 e2 e3 e4 e5 =
    rw (e5, e4, e3, e2, e1, e0) (grown_all name (alu_clause o) (move_clause o) (dp_clause o) (m_clause o) (rp_clause o) two)
