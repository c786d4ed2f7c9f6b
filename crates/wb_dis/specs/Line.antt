-- The canonical line of a word: the one way in which a listing spells it.
use Rattle.std.specs.Prelude.{ℕ, ◌+◌, ◌==◌, if◌then◌else◌, List, [], ◌∷◌, ◌++◌, codes}
use Rattle.std.specs.Char.{digit_char}
use Rattle.std.specs.List.{flat_map, join_by}
use Rattle.std.specs.Option.{option_to_list}
use Rattle.std.specs.declared.option.Option.{Option}
use Rattle.std.specs.declared.option.Option.TheVariants.{Some, None}
use Rattle.wb_word.specs.Codes.{p_code, alu_code, acc_code, dpl_code, src_code, dst_code}
use Rattle.wb_word.specs.Encoding.{instr_of}
use Rattle.wb_word.specs.Names.{p_name, alu_name, acc_name, dpl_name, src_name, dst_name, cond_name}
use Rattle.wb_word.specs.declared.words.Instr.{Instr}
use Rattle.wb_word.specs.declared.words.Instr.TheVariants.{Op, Rt, Jp, Ld}
use Rattle.wb_word.specs.declared.words.OpWord.{OpWord}
use Rattle.wb_word.specs.declared.codes.Dst.{Dst}
use Rattle.wb_dis.specs.Digits.{hex3, hex4, hex6}

-- the clause of a number that is XORed into the high four bits of DP
abbrev pub m_name : ℕ → List ℕ
m_name n = codes "m" ++ digit_char n ∷ []

-- what the ALU does, unless all three of its fields are 0
abbrev pub alu_clause : OpWord → Option (List ℕ)
alu_clause o =
    if alu_code o.alu + p_code o.p + acc_code o.acc == 0 then None
    else Some (alu_name o.alu ++ codes " " ++ acc_name o.acc ++ codes "," ++ p_name o.p)

-- the move, unless both of its fields are 0
abbrev pub move_clause : OpWord → Option (List ℕ)
move_clause o =
    if src_code o.src + dst_code o.dst == 0 then None
    else Some (codes "mov " ++ dst_name o.dst ++ codes "," ++ src_name o.src)

-- what happens to the low four bits of DP, unless they stay
abbrev pub dp_clause : OpWord → Option (List ℕ)
dp_clause o = if dpl_code o.dpl == 0 then None else Some (dpl_name o.dpl)

-- what is XORed into the high four bits of DP, unless it is 0
abbrev pub m_clause : OpWord → Option (List ℕ)
m_clause o = if o.dphm.value == 0 then None else Some (m_name o.dphm.value)

-- whether RP becomes RP - 1
abbrev pub rp_clause : OpWord → Option (List ℕ)
rp_clause o = if o.rpdec then Some (codes "rpdec") else None

-- the clauses that aren't left out, in their order
abbrev pub clauses : OpWord → List (List ℕ)
clauses o =
    flat_map option_to_list (alu_clause o ∷ move_clause o ∷ dp_clause o ∷ m_clause o ∷ rp_clause o ∷ [])

-- a mnemonic and clauses, with a bar between each two
abbrev pub with_clauses : List ℕ → List (List ℕ) → List ℕ
with_clauses mnemonic [] = mnemonic
with_clauses mnemonic (clause ∷ more) =
    mnemonic ++ codes " " ++ join_by (λ text. text) (codes " | ") (clause ∷ more)

-- a word that no mnemonic spells
abbrev pub word_line : ℕ → List ℕ
word_line word = codes ".word 0x" ++ hex6 word

-- a jump, where its code has a name and its spare bits are 0
abbrev pub jump_line : ℕ → Option (List ℕ) → ℕ → ℕ → List ℕ
jump_line word None target spare = word_line word
jump_line word (Some name) target spare =
    if spare == 0 then name ++ codes " 0x" ++ hex3 target else word_line word

-- a load, where its spare bits are 0
abbrev pub load_line : ℕ → ℕ → ℕ → Dst → List ℕ
load_line word value spare dst =
    if spare == 0 then codes "ld " ++ dst_name dst ++ codes ",0x" ++ hex4 value else word_line word

-- a word that computes and moves, and doesn't return
abbrev pub op_line : ℕ → OpWord → List ℕ
op_line word o = if word == 0 then codes "nop" else with_clauses (codes "op") (clauses o)

-- the line of a word that is this instruction
abbrev pub instr_line : ℕ → Instr → List ℕ
instr_line word (Op o) = op_line word o
instr_line word (Rt o) = with_clauses (codes "rt") (clauses o)
instr_line word (Jp cond na spare) = jump_line word (cond_name cond) na.value spare.value
instr_line word (Ld value spare dst) = load_line word value spare.value dst

-- the canonical line of a word below 2 ^ 24
unfoldable pub canonical_line : ℕ → List ℕ
canonical_line word = instr_line word (instr_of word)
