-- The clauses of a statement that computes and moves, and the word that they make.
use Rattle.std.specs.Prelude.{◌≡◌, ◌≢◌, ℕ, ◌<◌, true, ⊤, List, [], ◌∷◌, codes}
use Rattle.std.specs.Char.{digit_char}
use Rattle.wb_lex.specs.declared.tokens.Token.{Token}
use Rattle.wb_word.specs.Names.{alu_name, acc_name, p_name, dst_name, src_name, dpl_name}
use Rattle.wb_word.specs.Encoding.{op_at}
use Rattle.wb_word.specs.declared.codes.Dpl.TheVariants.{DpNop}
use Rattle.wb_word.specs.declared.words.OpWord.{OpWord}
use Rattle.wb_syntax.specs.declared.clauses.Clause.{Clause}
use Rattle.wb_syntax.specs.declared.clauses.Clause.TheVariants.{Compute, Move, Step, Modify, Lower}
use Rattle.wb_syntax.specs.Separators.{parts}
use Rattle.wb_syntax.specs.declared.separators.Separator.TheVariants.{Bar}
use Rattle.wb_syntax.specs.Spelling.{Says, IsMark}

-- the name is this clause by itself
abbrev pub IsShort : List ℕ → Clause → Type 0
IsShort name (Step dpl) = (dpl ≢ DpNop) × (name ≡ dpl_name dpl)
IsShort name (Modify nibble) = (0 < nibble.value) × (name ≡ 109 ∷ digit_char nibble.value ∷ [])
IsShort name Lower = name ≡ codes "rpdec"
IsShort name _ = ⊥

-- two names, and a third after a comma, are this clause
abbrev pub IsLong : List ℕ → List ℕ → List ℕ → Clause → Type 0
IsLong first second third (Compute alu acc p) = (first ≡ alu_name alu) × (second ≡ acc_name acc) × (third ≡ p_name p)
IsLong first second third (Move dst src) = (first ≡ codes "mov") × (second ≡ dst_name dst) × (third ≡ src_name src)
IsLong first second third _ = ⊥

-- the tokens are this clause: 44 is the comma
abbrev pub IsClause : List ℕ → List Token → Clause → Type 0
IsClause text (word ∷ []) clause = (name : List ℕ) × Says text word name × IsShort name clause
IsClause text (a ∷ b ∷ comma ∷ c ∷ []) clause =
    IsMark comma 44 × ((first second third : List ℕ) × Says text a first × Says text b second × Says text c third × IsLong first second third clause)
IsClause text _ clause = ⊥

-- each of these parts is a clause
abbrev pub AreClauses : List ℕ → List (List Token) → List Clause → Type 0
AreClauses text [] [] = ⊤
AreClauses text [] (_ ∷ _) = ⊥
AreClauses text (_ ∷ _) [] = ⊥
AreClauses text (part ∷ others) (clause ∷ clauses) = IsClause text part clause × AreClauses text others clauses

-- the clauses of one sort have one number
abbrev pub sort_of : Clause → ℕ
sort_of (Compute alu acc p) = 0
sort_of (Move dst src) = 1
sort_of (Step dpl) = 2
sort_of (Modify nibble) = 3
sort_of Lower = 4

-- a word with the fields of a clause
abbrev pub with_clause : OpWord → Clause → OpWord
with_clause word (Compute alu acc p) = record word { alu = alu; acc = acc; p = p }
with_clause word (Move dst src) = record word { dst = dst; src = src }
with_clause word (Step dpl) = record word { dpl = dpl }
with_clause word (Modify nibble) = record word { dphm = nibble }
with_clause word Lower = record word { rpdec = true }

abbrev pub with_clauses : OpWord → List Clause → OpWord
with_clauses word [] = word
with_clauses word (clause ∷ clauses) = with_clauses (with_clause word clause) clauses

-- the word whose fields are all 0
abbrev pub empty_word : OpWord
empty_word = op_at 0

-- no clause of these has this sort
abbrev pub Lacks : ℕ → List Clause → Type 0
Lacks sort [] = ⊤
Lacks sort (clause ∷ clauses) = (sort_of clause ≢ sort) × Lacks sort clauses

-- no two clauses have one sort
abbrev pub AreApart : List Clause → Type 0
AreApart [] = ⊤
AreApart (clause ∷ clauses) = Lacks (sort_of clause) clauses × AreApart clauses

-- the tokens are clauses with a bar between them, each sort at most once, and this is the word that they make
pub record AreFields (text : List ℕ) (tokens : List Token) (word : OpWord) : Type 0 where
  pub clauses : List Clause
  pub each : AreClauses text (parts Bar tokens) clauses
  pub once : AreApart clauses
  pub made : word ≡ with_clauses empty_word clauses
