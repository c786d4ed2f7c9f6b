-- The canonical line of each word: what it is cut into, what it says, and the word that it places.
use Rattle.std.proofs.Common.{◌≡◌, ℕ, ◌+◌, ◌*◌, ◌%◌, ◌^◌, ◌<◌, ◌≤◌, ◌==◌, ℤ, pos, negsuc, Bool, true, false, not, if◌then◌else◌, List, [], ◌∷◌, ◌++◌, codes, Option, Some, None, refl, sym, ap, ◌∙◌, subst, arith, append_assoc}
use Rattle.std.specs.List.{slice_set}
use Rattle.std.specs.Option.{option_or, IfSome}
use Rattle.std.proofs.lemmas.Bool.Decides.{nat_tests}
use Rattle.wb_lex.specs.declared.tokens.Token.{Token}
use Rattle.wb_syntax.specs.Clause.{with_clauses, empty_word}
use Rattle.wb_syntax.specs.Source.{is_filled}
use Rattle.wb_syntax.specs.Statement.{IsBody, AreExpressions}
use Rattle.wb_syntax.specs.Separators.{parts, is_separator}
use Rattle.wb_syntax.specs.Tree.{Tree, Number}
use Rattle.wb_syntax.specs.declared.mnemonics.Mnemonic.TheVariants as mnemonic
use Rattle.wb_syntax.specs.declared.separators.Separator.TheVariants.{Comma}
use Rattle.wb_syntax.specs.declared.statements.Body.{Body}
use Rattle.wb_syntax.specs.declared.statements.Body.TheVariants as body
use Rattle.wb_asm.specs.declared.counters.Counters.{Counters}
use Rattle.wb_asm.specs.declared.faults.AsmKind.{AsmKind}
use Rattle.wb_asm.specs.declared.layout.Layout.{Layout}
use Rattle.wb_asm.specs.Layout.{early_fault, equ_fault, with_equ, program_after, data_after, place_fault}
use Rattle.wb_asm.specs.Space.{word_fault, with_word}
use Rattle.wb_asm.specs.Value.{Names, is_between, value_fault}
use Rattle.wb_asm.specs.Words.{values_fault, prog_with, drom_with}
use Rattle.wb_word.specs.Codes.{dst_code}
use Rattle.wb_word.specs.Conditions.{cond_code}
use Rattle.wb_word.specs.Encoding.{fields, number, instr_of}
use Rattle.wb_word.specs.Names.{dst_name, cond_name}
use Rattle.wb_word.specs.declared.codes.Dst.{Dst}
use Rattle.wb_word.specs.declared.conditions.Cond.{Cond}
use Rattle.wb_word.specs.declared.numbers.Addr.{Addr}
use Rattle.wb_word.specs.declared.numbers.Spare.{Spare}
use Rattle.wb_word.specs.declared.words.Instr.{Instr}
use Rattle.wb_word.specs.declared.words.Instr.TheVariants.{Op, Rt, Jp, Ld}
use Rattle.wb_word.specs.declared.words.OpWord.{OpWord}
use Rattle.wb_dis.specs.Digits.{hex3, hex4, hex6}
use Rattle.wb_dis.specs.Line as line
use Rattle.wb_dis.proofs.Clauses.{IsApart, listed, listed_told, listed_ascends, listed_makes, operation_spelled, operation_valid}
use Rattle.wb_dis.proofs.Grammar.{IsCalm, operation_calm, operation_parts, ascends_apart, word_shown, number_shown, split_uncut, shown_uncut}
use Rattle.wb_syntax.specs.declared.clauses.Clause.{Clause}
use Rattle.wb_dis.proofs.Parts as sign
use Rattle.wb_dis.proofs.Parts.{Part, Named, Numbered, Marked, Gap, Sign, Name, text_of, IsPart, AreParts, signs_of, Show}
use Rattle.wb_dis.proofs.Words.{IsName, IsNumber, dst_named, cond_named, hex3_number, hex4_number, hex6_number}

-- a statement of one program word
pub record IsProgram (b : Body) : Type 0 where
  pub early : (text : List ℕ) (before : Layout) → early_fault text before b ≡ None
  pub equ : (text : List ℕ) (names : Names) → equ_fault text names b ≡ None
  pub names : (text : List ℕ) (names : Names) (n : ℤ) → with_equ text names b n ≡ names
  pub prog : (before : Layout) (n : ℤ) → program_after before b n ≡ with_word before.prog
  pub drom : (before : Layout) (n : ℤ) → data_after before b n ≡ before.drom
  pub fault : (before : Layout) → word_fault before.prog ≡ None → place_fault before b ≡ None
  pub rest : (text : List ℕ) (names : Names) (memory : List ℕ) (at : Counters) → drom_with text names memory at b ≡ memory

-- a statement that places this program word
pub record IsProgramOf (b : Body) (word : ℕ) : Type 0 where
  pub placed : IsProgram b
  pub values : (source : List ℕ) (names : Names) (at : Counters) → values_fault source names at b ≡ None
  pub puts : (source : List ℕ) (names : Names) (memory : List ℕ) (at : Counters) → prog_with source names memory at b ≡ slice_set memory at.prog word

-- a line of this text, which says a statement that places the word
pub record Line (word : ℕ) (text : List ℕ) : Type 0 where
  pub these : List Part
  pub said : Body
  pub spelled : text_of these ≡ text
  pub valid : (rest : List ℕ) → IsApart rest → AreParts these rest
  pub says : (source : List ℕ) (tokens : List Token) → Show source tokens (signs_of these) → IsBody source tokens said
  pub filled : (source : List ℕ) (tokens : List Token) → Show source tokens (signs_of these) → is_filled tokens ≡ true
  pub calm : IsCalm (signs_of these)
  pub placed : IsProgram said
  pub values : (source : List ℕ) (names : Names) (at : Counters) → values_fault source names at said ≡ None
  pub puts : (source : List ℕ) (names : Names) (memory : List ℕ) (at : Counters) → prog_with source names memory at said ≡ slice_set memory at.prog word

bool_apart : false ≡ true → ⊥
bool_apart h = cc

pub filled_named : (source : List ℕ) (tokens : List Token) (name : List ℕ) (signs : List Sign) → Show source tokens (Name name ∷ signs) → is_filled tokens ≡ true
filled_named source [] name signs h = absurd h
filled_named source (token ∷ tokens) name signs h = refl

or_none : (a : Option AsmKind) → a ≡ None → option_or a None ≡ None
or_none a h = rw h

program_op : (o : OpWord) → IsProgram (body.Op o)
unfolding drom_with
program_op o = record {
  early = λ text before. refl;
  equ = λ text names. refl;
  names = λ text names n. refl;
  prog = λ before n. refl;
  drom = λ before n. refl;
  fault = λ before h. or_none (option_or (word_fault before.prog) None) (or_none (word_fault before.prog) h);
  rest = λ text names memory at. refl;
}

program_rt : (o : OpWord) → IsProgram (body.Rt o)
unfolding drom_with
program_rt o = record {
  early = λ text before. refl;
  equ = λ text names. refl;
  names = λ text names n. refl;
  prog = λ before n. refl;
  drom = λ before n. refl;
  fault = λ before h. or_none (option_or (word_fault before.prog) None) (or_none (word_fault before.prog) h);
  rest = λ text names memory at. refl;
}

program_ld : (dst : Dst) (x : Tree) → IsProgram (body.Ld dst x)
unfolding drom_with
program_ld dst x = record {
  early = λ text before. refl;
  equ = λ text names. refl;
  names = λ text names n. refl;
  prog = λ before n. refl;
  drom = λ before n. refl;
  fault = λ before h. or_none (option_or (word_fault before.prog) None) (or_none (word_fault before.prog) h);
  rest = λ text names memory at. refl;
}

program_jump : (cond : Cond) (x : Tree) → IsProgram (body.Jump cond x)
unfolding drom_with
program_jump cond x = record {
  early = λ text before. refl;
  equ = λ text names. refl;
  names = λ text names n. refl;
  prog = λ before n. refl;
  drom = λ before n. refl;
  fault = λ before h. or_none (option_or (word_fault before.prog) None) (or_none (word_fault before.prog) h);
  rest = λ text names memory at. refl;
}

program_word : (x : Tree) → IsProgram (body.Words (x ∷ []))
unfolding drom_with
program_word x = record {
  early = λ text before. refl;
  equ = λ text names. refl;
  names = λ text names n. refl;
  prog = λ before n. refl;
  drom = λ before n. refl;
  fault = λ before h. or_none (option_or (word_fault before.prog) None) (or_none (word_fault before.prog) h);
  rest = λ text names memory at. refl;
}

between : (high n : ℕ) → n ≤ high → is_between (pos 0) (pos high) (pos n) ≡ true
between high n h = grind (arith, nat_tests)

pub between_signed : (low high n : ℕ) → n ≤ high → is_between (negsuc low) (pos high) (pos n) ≡ true
between_signed low high n h = grind (arith, nat_tests)

pub number_fault : (source : List ℕ) (names : Names) (at : ℕ) (low high : ℤ) (n : ℕ) → is_between low high (pos n) ≡ true
    → value_fault source names at low high (Number n) ≡ None
unfolding value_fault
number_fault source names at low high n h = rw h

number_part : (word : List ℕ) (value : ℕ) (rest : List ℕ) → IsNumber word value → IsApart rest → IsPart (Numbered word value) rest
number_part word value rest h apart = ((h.whole, ap not apart), h.numbered, h.narrow)

equal_from : (a b : ℕ) → (a == b) ≡ true → a ≡ b
equal_from a b h = grind (arith, nat_tests)

nop_says : (source : List ℕ) (tokens : List Token) → Show source tokens (Name (codes "nop") ∷ []) → IsBody source tokens (body.Op empty_word)
nop_says source [] h = absurd h
nop_says source (head ∷ []) h = record {
  head = head;
  rest = [];
  split = refl;
  mnemonic = mnemonic.Nop;
  name = codes "nop";
  is_named = refl;
  said = h.0;
  operands = (refl, refl);
}
nop_says source (head ∷ next ∷ tokens) h = absurd h.1

operation_filled : (name : List ℕ) (o : OpWord) (source : List ℕ) (tokens : List Token) → Show source tokens (signs_of (operation_parts name (listed o))) → is_filled tokens ≡ true
operation_filled name o source tokens h = begun (listed o) h
  where
    begun : (cs : List Clause) → Show source tokens (signs_of (operation_parts name cs)) → is_filled tokens ≡ true
    begun [] h = filled_named source tokens name [] h
    begun (c ∷ cs) h = filled_named source tokens name _ h

op_says : (o : OpWord) (source : List ℕ) (tokens : List Token) → Show source tokens (signs_of (operation_parts (codes "op") (listed o)))
    → IsBody source tokens (body.Op (with_clauses empty_word (listed o)))
op_says o source [] h = absurd (bool_apart (operation_filled (codes "op") o source [] h))
op_says o source (head ∷ tokens) h =
    let shown = word_shown source tokens (listed o) (codes "op") head (listed_told o) (ascends_apart 0 (listed o) (listed_ascends o)) h in
    record {
      head = head;
      rest = tokens;
      split = refl;
      mnemonic = mnemonic.Op;
      name = codes "op";
      is_named = refl;
      said = shown.0;
      operands = (with_clauses empty_word (listed o), refl, shown.1);
    }

rt_says : (o : OpWord) (source : List ℕ) (tokens : List Token) → Show source tokens (signs_of (operation_parts (codes "rt") (listed o)))
    → IsBody source tokens (body.Rt (with_clauses empty_word (listed o)))
rt_says o source [] h = absurd (bool_apart (operation_filled (codes "rt") o source [] h))
rt_says o source (head ∷ tokens) h =
    let shown = word_shown source tokens (listed o) (codes "rt") head (listed_told o) (ascends_apart 0 (listed o) (listed_ascends o)) h in
    record {
      head = head;
      rest = tokens;
      split = refl;
      mnemonic = mnemonic.Rt;
      name = codes "rt";
      is_named = refl;
      said = shown.0;
      operands = (with_clauses empty_word (listed o), refl, shown.1);
    }

-- a sole number is a list of one expression
pub numbers_shown : (source : List ℕ) (tokens : List Token) (n : ℕ) → Show source tokens (sign.Number n ∷ [])
    → AreExpressions source (parts Comma tokens) (Number n ∷ [])
numbers_shown source tokens n h =
    subst (λ (cut : List (List Token)). AreExpressions source cut (Number n ∷ []))
    (sym (split_uncut (λ token. is_separator Comma token.kind) tokens (shown_uncut Comma source tokens (sign.Number n ∷ []) h (refl, tt))))
    (number_shown source tokens n h, tt)

plain_says : (word : ℕ) (source : List ℕ) (tokens : List Token) → Show source tokens (Name (codes ".word") ∷ sign.Number word ∷ [])
    → IsBody source tokens (body.Words (Number word ∷ []))
plain_says word source [] h = absurd h
plain_says word source (head ∷ tokens) h = record {
  head = head;
  rest = tokens;
  split = refl;
  mnemonic = mnemonic.Word;
  name = codes ".word";
  is_named = refl;
  said = h.0;
  operands = (Number word ∷ [], refl, numbers_shown source tokens word h.1);
}

ld_says : (dst : Dst) (value : ℕ) (source : List ℕ) (tokens : List Token)
    → Show source tokens (Name (codes "ld") ∷ Name (dst_name dst) ∷ sign.Sole 44 ∷ sign.Number value ∷ []) → IsBody source tokens (body.Ld dst (Number value))
ld_says dst value source [] h = absurd h
ld_says dst value source (head ∷ []) h = absurd h.1
ld_says dst value source (head ∷ name ∷ []) h = absurd h.1.1
ld_says dst value source (head ∷ name ∷ comma ∷ tokens) h = record {
  head = head;
  rest = name ∷ comma ∷ tokens;
  split = refl;
  mnemonic = mnemonic.Ld;
  name = codes "ld";
  is_named = refl;
  said = h.0;
  operands = (
    dst,
    Number value,
    refl,
    record {
      name = name;
      comma = comma;
      others = tokens;
      split = refl;
      named = h.1.0;
      separated = h.1.1.0;
      valued = number_shown source tokens value h.1.1.1;
    },
  );
}

jump_says : (cond : Cond) (name : List ℕ) (na : ℕ) → cond_name cond ≡ Some name → (source : List ℕ) (tokens : List Token)
    → Show source tokens (Name name ∷ sign.Number na ∷ []) → IsBody source tokens (body.Jump cond (Number na))
jump_says cond name na named source [] h = absurd h
jump_says cond name na named source (head ∷ tokens) h = record {
  head = head;
  rest = tokens;
  split = refl;
  mnemonic = mnemonic.Jump cond;
  name = name;
  is_named = named;
  said = h.0;
  operands = (Number na, refl, number_shown source tokens na h.1);
}

op_case : (b : Bool) (word : ℕ) (o : OpWord) → (word == 0) ≡ b → fields o ≡ word
    → Line word (if b then codes "nop" else line.with_clauses (codes "op") (line.clauses o))
unfolding values_fault prog_with
op_case true word o zero whole = record {
  these = Named (codes "nop") ∷ [];
  said = body.Op empty_word;
  spelled = refl;
  valid = λ rest apart. (((refl, ap not apart), refl), tt);
  says = nop_says;
  filled = λ source tokens h. filled_named source tokens (codes "nop") [] h;
  calm = tt;
  placed = program_op empty_word;
  values = λ source names at. refl;
  puts = λ source names memory at. ap (λ w. slice_set memory at.prog w) (sym (equal_from word 0 zero));
}
op_case false word o some whole = record {
  these = operation_parts (codes "op") (listed o);
  said = body.Op (with_clauses empty_word (listed o));
  spelled = operation_spelled (codes "op") o;
  valid = λ rest apart. operation_valid (codes "op") (listed o) rest (record { whole = refl; named = refl }) apart;
  says = op_says o;
  filled = operation_filled (codes "op") o;
  calm = operation_calm (codes "op") (listed o);
  placed = program_op (with_clauses empty_word (listed o));
  values = λ source names at. refl;
  puts = λ source names memory at. ap (λ w. slice_set memory at.prog w) (listed_makes o ∙ whole);
}

rt_case : (word : ℕ) (o : OpWord) → 2 ^ 22 + fields o ≡ word → Line word (line.with_clauses (codes "rt") (line.clauses o))
unfolding values_fault prog_with
rt_case word o whole = record {
  these = operation_parts (codes "rt") (listed o);
  said = body.Rt (with_clauses empty_word (listed o));
  spelled = operation_spelled (codes "rt") o;
  valid = λ rest apart. operation_valid (codes "rt") (listed o) rest (record { whole = refl; named = refl }) apart;
  says = rt_says o;
  filled = operation_filled (codes "rt") o;
  calm = operation_calm (codes "rt") (listed o);
  placed = program_rt (with_clauses empty_word (listed o));
  values = λ source names at. refl;
  puts = λ source names memory at. ap (λ n. slice_set memory at.prog (2 ^ 22 + n)) (listed_makes o) ∙ ap (λ w. slice_set memory at.prog w) whole;
}

plain_case : (word : ℕ) → word < 2 ^ 24 → Line word (line.word_line word)
unfolding values_fault prog_with
plain_case word small = record {
  these = Named (codes ".word") ∷ Gap ∷ Numbered (48 ∷ 120 ∷ hex6 word) word ∷ [];
  said = body.Words (Number word ∷ []);
  spelled = refl;
  valid = λ rest apart. (((refl, refl), refl), (tt, (number_part (48 ∷ 120 ∷ hex6 word) word rest (hex6_number word small) apart, tt)));
  says = plain_says word;
  filled = λ source tokens h. filled_named source tokens (codes ".word") _ h;
  calm = refl;
  placed = program_word (Number word);
  values = λ source names at.
      let high : word ≤ 16777215 = omega arith in
      ap (λ (f : Option AsmKind). option_or (option_or f None) None) (number_fault source names at.prog (pos 0) (pos 16777215) word (between 16777215 word high));
  puts = λ source names memory at. refl;
}

ld_number : (value spare dst word : ℕ) → spare ≡ 0 → value % 65536 ≡ value → 3 * 2 ^ 22 + value * 2 ^ 6 + spare * 2 ^ 4 + dst ≡ word
    → 3 * 2 ^ 22 + value % 65536 * 2 ^ 6 + 0 * 2 ^ 4 + dst ≡ word
ld_number value spare dst word none same whole = rw same (omega arith)

jump_number : (cond na spare word : ℕ) → spare ≡ 0 → na % 2048 ≡ na → 2 * 2 ^ 22 + cond * 2 ^ 13 + na * 2 ^ 2 + spare ≡ word
    → 2 * 2 ^ 22 + cond * 2 ^ 13 + na % 2048 * 2 ^ 2 + 0 ≡ word
jump_number cond na spare word none same whole = rw same (omega arith)

ld_case : (b : Bool) (word value spare : ℕ) (dst : Dst) → (spare == 0) ≡ b → word < 2 ^ 24 → value < 2 ^ 16
    → 3 * 2 ^ 22 + value * 2 ^ 6 + spare * 2 ^ 4 + dst_code dst ≡ word
    → Line word (if b then codes "ld " ++ dst_name dst ++ codes ",0x" ++ hex4 value else line.word_line word)
unfolding values_fault prog_with
ld_case false word value spare dst some small low whole = plain_case word small
ld_case true word value spare dst zero small low whole = record {
  these = Named (codes "ld") ∷ Gap ∷ Named (dst_name dst) ∷ Marked 44 ∷ Numbered (48 ∷ 120 ∷ hex4 value) value ∷ [];
  said = body.Ld dst (Number value);
  spelled = ap (λ (t : List ℕ). 108 ∷ 100 ∷ 32 ∷ t) (sym (append_assoc (dst_name dst) (44 ∷ 48 ∷ 120 ∷ []) (hex4 value)));
  valid = λ rest apart.
      (((refl, refl), refl), (tt, ((((dst_named dst).whole, refl), (dst_named dst).named), (refl, (number_part (48 ∷ 120 ∷ hex4 value) value rest (hex4_number value low) apart, tt)))));
  says = ld_says dst value;
  filled = λ source tokens h. filled_named source tokens (codes "ld") _ h;
  calm = refl;
  placed = program_ld dst (Number value);
  values = λ source names at.
      let high : value ≤ 65535 = omega arith in
      ap (λ (f : Option AsmKind). option_or (option_or f None) None) (number_fault source names at.prog (negsuc 32767) (pos 65535) value (between_signed 32767 65535 value high));
  puts = λ source names memory at.
      let none = equal_from spare 0 zero in
      let same : value % 65536 ≡ value = omega arith in
      ap (λ w. slice_set memory at.prog w) (ld_number value spare (dst_code dst) word none same whole);
}

jump_case : (b : Bool) (word na spare : ℕ) (cond : Cond) (name : List ℕ) → (spare == 0) ≡ b → word < 2 ^ 24 → na < 2048 → cond_name cond ≡ Some name
    → IsName name → 2 * 2 ^ 22 + cond_code cond * 2 ^ 13 + na * 2 ^ 2 + spare ≡ word
    → Line word (if b then name ++ codes " 0x" ++ hex3 na else line.word_line word)
unfolding values_fault prog_with
jump_case false word na spare cond name some small low named h whole = plain_case word small
jump_case true word na spare cond name zero small low named h whole = record {
  these = Named name ∷ Gap ∷ Numbered (48 ∷ 120 ∷ hex3 na) na ∷ [];
  said = body.Jump cond (Number na);
  spelled = sym (append_assoc name (codes " 0x") (hex3 na));
  valid = λ rest apart. (((h.whole, refl), h.named), (tt, (number_part (48 ∷ 120 ∷ hex3 na) na rest (hex3_number na (omega arith)) apart, tt)));
  says = jump_says cond name na named;
  filled = λ source tokens g. filled_named source tokens name _ g;
  calm = refl;
  placed = program_jump cond (Number na);
  values = λ source names at.
      let high : na ≤ 2047 = omega arith in
      ap (λ (f : Option AsmKind). option_or (option_or f None) None) (number_fault source names at.prog (pos 0) (pos 2047) na (between 2047 na high));
  puts = λ source names memory at.
      let none = equal_from spare 0 zero in
      let same : na % 2048 ≡ na = omega arith in
      ap (λ w. slice_set memory at.prog w) (jump_number (cond_code cond) na spare word none same whole);
}

named_case : (word : ℕ) (cond : Cond) (na : Addr) (spare : Spare) (name : Option (List ℕ)) → cond_name cond ≡ name → IfSome name IsName → word < 2 ^ 24
    → 2 * 2 ^ 22 + cond_code cond * 2 ^ 13 + na.value * 2 ^ 2 + spare.value ≡ word → Line word (line.jump_line word name na.value spare.value)
named_case word cond na spare None named h small whole = plain_case word small
named_case word cond na spare (Some name) named h small whole =
    jump_case (spare.value == 0) word na.value spare.value cond name refl small na.in_range named h whole

instr_case : (word : ℕ) (i : Instr) → word < 2 ^ 24 → number i ≡ word → Line word (line.instr_line word i)
instr_case word (Op o) small whole = op_case (word == 0) word o refl whole
instr_case word (Rt o) small whole = rt_case word o whole
instr_case word (Jp cond na spare) small whole = named_case word cond na spare (cond_name cond) refl (cond_named cond) small whole
instr_case word (Ld value spare dst) small whole =
    ld_case (spare.value == 0) word value spare.value dst refl small (omega arith) whole

-- the canonical line of each word says that word
pub canonical : (word : ℕ) → word < 2 ^ 24 → number (instr_of word) ≡ word → Line word (line.canonical_line word)
unfolding line.canonical_line
canonical word small whole = instr_case word (instr_of word) small whole

-- the line of a data word
pub data_valid : (word : ℕ) → word < 2 ^ 16 → (rest : List ℕ) → IsApart rest
    → AreParts (Named (codes ".dw") ∷ Gap ∷ Numbered (48 ∷ 120 ∷ hex4 word) word ∷ []) rest
data_valid word small rest apart = (((refl, refl), refl), (tt, (number_part (48 ∷ 120 ∷ hex4 word) word rest (hex4_number word small) apart, tt)))

pub data_says : (word : ℕ) (source : List ℕ) (tokens : List Token) → Show source tokens (Name (codes ".dw") ∷ sign.Number word ∷ [])
    → IsBody source tokens (body.Dwords (Number word ∷ []))
data_says word source [] h = absurd h
data_says word source (head ∷ tokens) h = record {
  head = head;
  rest = tokens;
  split = refl;
  mnemonic = mnemonic.Dw;
  name = codes ".dw";
  is_named = refl;
  said = h.0;
  operands = (Number word ∷ [], refl, numbers_shown source tokens word h.1);
}
