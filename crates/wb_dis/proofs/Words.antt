-- The words that canonical lines are made of: each is a name or a number.
use Rattle.std.proofs.Common.{◌≡◌, ℕ, zero, suc, ◌==◌, ◌+◌, ◌*◌, ◌/◌, ◌%◌, ◌^◌, ◌<◌, nat_lt, Bool, true, false, ◌&&◌, if◌then◌else◌, List, [], ◌∷◌, ◌++◌, Some, None, map, length, nat_le, ◌∙◌, refl, ap, arith, lit<}
use Rattle.std.specs.Char.{digit_char, digit_value, is_digit}
use Rattle.std.specs.List.{list_all, list_any}
use Rattle.std.specs.Option.{IfSome}
use Rattle.std.specs.Str.Parse.{digits_value, digits_value_after}
use Rattle.std.proofs.lemmas.Bool.Decides.{nat_tests}
use Rattle.std.proofs.lemmas.Nat.{mod_below}
use Rattle.wb_lex.specs.Characters.{is_word_character}
use Rattle.wb_lex.specs.Pieces.{is_word}
use Rattle.wb_lex.specs.Tokens.{word_kind, number_kind, is_wide_kind}
use Rattle.wb_lex.specs.declared.tokens.TokenKind.TheVariants as kind
use Rattle.wb_word.specs.Names.{p_name, alu_name, acc_name, dpl_name, src_name, dst_name, cond_name}
use Rattle.wb_word.specs.declared.conditions.Cond.{Cond}
use Rattle.wb_word.specs.declared.conditions.Cond.TheVariants as cond
use Rattle.wb_dis.specs.Digits.{hex_digit, hex3, hex4, hex6}
use Rattle.wb_word.specs.declared.codes.P.{P}
use Rattle.wb_word.specs.declared.codes.P.TheVariants as p
use Rattle.wb_word.specs.declared.codes.Alu.{Alu}
use Rattle.wb_word.specs.declared.codes.Alu.TheVariants as alu
use Rattle.wb_word.specs.declared.codes.Acc.{Acc}
use Rattle.wb_word.specs.declared.codes.Acc.TheVariants as acc
use Rattle.wb_word.specs.declared.codes.Dpl.{Dpl}
use Rattle.wb_word.specs.declared.codes.Dpl.TheVariants as dpl
use Rattle.wb_word.specs.declared.codes.Src.{Src}
use Rattle.wb_word.specs.declared.codes.Src.TheVariants as src
use Rattle.wb_word.specs.declared.codes.Dst.{Dst}
use Rattle.wb_word.specs.declared.codes.Dst.TheVariants as dst

-- the word is a name
pub record IsName (word : List ℕ) : Type 0 where
  pub whole : is_word word ≡ true
  pub named : word_kind word ≡ kind.Name

-- the word writes this number
pub record IsNumber (word : List ℕ) (n : ℕ) : Type 0 where
  pub whole : is_word word ≡ true
  pub numbered : word_kind word ≡ kind.Number n
  pub narrow : is_wide_kind (word_kind word) ≡ false

pub p_named : (x : P) → IsName (p_name x)
p_named p.Ram = record { whole = refl; named = refl }
p_named p.Idb = record { whole = refl; named = refl }
p_named p.M = record { whole = refl; named = refl }
p_named p.N = record { whole = refl; named = refl }

pub alu_named : (x : Alu) → IsName (alu_name x)
alu_named alu.Nop = record { whole = refl; named = refl }
alu_named alu.Or = record { whole = refl; named = refl }
alu_named alu.And = record { whole = refl; named = refl }
alu_named alu.Xor = record { whole = refl; named = refl }
alu_named alu.Sub = record { whole = refl; named = refl }
alu_named alu.Add = record { whole = refl; named = refl }
alu_named alu.Sbb = record { whole = refl; named = refl }
alu_named alu.Adc = record { whole = refl; named = refl }
alu_named alu.Dec = record { whole = refl; named = refl }
alu_named alu.Inc = record { whole = refl; named = refl }
alu_named alu.Cmp = record { whole = refl; named = refl }
alu_named alu.Shr1 = record { whole = refl; named = refl }
alu_named alu.Shl1 = record { whole = refl; named = refl }
alu_named alu.Shl2 = record { whole = refl; named = refl }
alu_named alu.Shl4 = record { whole = refl; named = refl }
alu_named alu.Xchg = record { whole = refl; named = refl }

pub acc_named : (x : Acc) → IsName (acc_name x)
acc_named acc.A = record { whole = refl; named = refl }
acc_named acc.B = record { whole = refl; named = refl }

pub dpl_named : (x : Dpl) → IsName (dpl_name x)
dpl_named dpl.DpNop = record { whole = refl; named = refl }
dpl_named dpl.DpInc = record { whole = refl; named = refl }
dpl_named dpl.DpDec = record { whole = refl; named = refl }
dpl_named dpl.DpClr = record { whole = refl; named = refl }

pub src_named : (x : Src) → IsName (src_name x)
src_named src.Trb = record { whole = refl; named = refl }
src_named src.A = record { whole = refl; named = refl }
src_named src.B = record { whole = refl; named = refl }
src_named src.Tr = record { whole = refl; named = refl }
src_named src.Dp = record { whole = refl; named = refl }
src_named src.Rp = record { whole = refl; named = refl }
src_named src.Ro = record { whole = refl; named = refl }
src_named src.Sgn = record { whole = refl; named = refl }
src_named src.Dr = record { whole = refl; named = refl }
src_named src.Drnf = record { whole = refl; named = refl }
src_named src.Sr = record { whole = refl; named = refl }
src_named src.Sim = record { whole = refl; named = refl }
src_named src.Sil = record { whole = refl; named = refl }
src_named src.K = record { whole = refl; named = refl }
src_named src.L = record { whole = refl; named = refl }
src_named src.Mem = record { whole = refl; named = refl }

pub dst_named : (x : Dst) → IsName (dst_name x)
dst_named dst.Non = record { whole = refl; named = refl }
dst_named dst.A = record { whole = refl; named = refl }
dst_named dst.B = record { whole = refl; named = refl }
dst_named dst.Tr = record { whole = refl; named = refl }
dst_named dst.Dp = record { whole = refl; named = refl }
dst_named dst.Rp = record { whole = refl; named = refl }
dst_named dst.Dr = record { whole = refl; named = refl }
dst_named dst.Sr = record { whole = refl; named = refl }
dst_named dst.Sol = record { whole = refl; named = refl }
dst_named dst.Som = record { whole = refl; named = refl }
dst_named dst.K = record { whole = refl; named = refl }
dst_named dst.Klr = record { whole = refl; named = refl }
dst_named dst.Klm = record { whole = refl; named = refl }
dst_named dst.L = record { whole = refl; named = refl }
dst_named dst.Trb = record { whole = refl; named = refl }
dst_named dst.Mem = record { whole = refl; named = refl }

pub cond_named : (x : Cond) → IfSome (cond_name x) IsName
cond_named cond.Jnca = record { whole = refl; named = refl }
cond_named cond.Jca = record { whole = refl; named = refl }
cond_named cond.Jncb = record { whole = refl; named = refl }
cond_named cond.Jcb = record { whole = refl; named = refl }
cond_named cond.Jnza = record { whole = refl; named = refl }
cond_named cond.Jza = record { whole = refl; named = refl }
cond_named cond.Jnzb = record { whole = refl; named = refl }
cond_named cond.Jzb = record { whole = refl; named = refl }
cond_named cond.Jnova0 = record { whole = refl; named = refl }
cond_named cond.Jova0 = record { whole = refl; named = refl }
cond_named cond.Jnovb0 = record { whole = refl; named = refl }
cond_named cond.Jovb0 = record { whole = refl; named = refl }
cond_named cond.Jnova1 = record { whole = refl; named = refl }
cond_named cond.Jova1 = record { whole = refl; named = refl }
cond_named cond.Jnovb1 = record { whole = refl; named = refl }
cond_named cond.Jovb1 = record { whole = refl; named = refl }
cond_named cond.Jnsa0 = record { whole = refl; named = refl }
cond_named cond.Jsa0 = record { whole = refl; named = refl }
cond_named cond.Jnsb0 = record { whole = refl; named = refl }
cond_named cond.Jsb0 = record { whole = refl; named = refl }
cond_named cond.Jnsa1 = record { whole = refl; named = refl }
cond_named cond.Jsa1 = record { whole = refl; named = refl }
cond_named cond.Jnsb1 = record { whole = refl; named = refl }
cond_named cond.Jsb1 = record { whole = refl; named = refl }
cond_named cond.Jdpl0 = record { whole = refl; named = refl }
cond_named cond.Jdpln0 = record { whole = refl; named = refl }
cond_named cond.Jdplf = record { whole = refl; named = refl }
cond_named cond.Jdplnf = record { whole = refl; named = refl }
cond_named cond.Jnsiak = record { whole = refl; named = refl }
cond_named cond.Jsiak = record { whole = refl; named = refl }
cond_named cond.Jnsoak = record { whole = refl; named = refl }
cond_named cond.Jsoak = record { whole = refl; named = refl }
cond_named cond.Jnrqm = record { whole = refl; named = refl }
cond_named cond.Jrqm = record { whole = refl; named = refl }
cond_named cond.Jmp = record { whole = refl; named = refl }
cond_named cond.Call = record { whole = refl; named = refl }
cond_named (cond.Other other) = tt

-- the facts of one hexadecimal digit
record IsDigit (value : ℕ) : Type 0 where
  character : is_word_character (hex_digit value) ≡ true
  digit : is_digit (hex_digit value) 16 ≡ true
  worth : digit_value (hex_digit value) ≡ value
  small : is_word_character (digit_char value) ≡ true
  no_feed : (hex_digit value == 10) ≡ false

below_sixteen : (value : ℕ) → value < 16 → IsDigit value
below_sixteen zero h = record { character = refl; digit = refl; worth = refl; small = refl; no_feed = refl }
below_sixteen (suc zero) h = record { character = refl; digit = refl; worth = refl; small = refl; no_feed = refl }
below_sixteen (suc (suc zero)) h = record { character = refl; digit = refl; worth = refl; small = refl; no_feed = refl }
below_sixteen (suc (suc (suc zero))) h = record { character = refl; digit = refl; worth = refl; small = refl; no_feed = refl }
below_sixteen (suc (suc (suc (suc zero)))) h = record { character = refl; digit = refl; worth = refl; small = refl; no_feed = refl }
below_sixteen (suc (suc (suc (suc (suc zero))))) h = record { character = refl; digit = refl; worth = refl; small = refl; no_feed = refl }
below_sixteen (suc (suc (suc (suc (suc (suc zero)))))) h = record { character = refl; digit = refl; worth = refl; small = refl; no_feed = refl }
below_sixteen (suc (suc (suc (suc (suc (suc (suc zero))))))) h = record { character = refl; digit = refl; worth = refl; small = refl; no_feed = refl }
below_sixteen (suc (suc (suc (suc (suc (suc (suc (suc zero)))))))) h = record { character = refl; digit = refl; worth = refl; small = refl; no_feed = refl }
below_sixteen (suc (suc (suc (suc (suc (suc (suc (suc (suc zero))))))))) h = record { character = refl; digit = refl; worth = refl; small = refl; no_feed = refl }
below_sixteen (suc (suc (suc (suc (suc (suc (suc (suc (suc (suc zero)))))))))) h = record { character = refl; digit = refl; worth = refl; small = refl; no_feed = refl }
below_sixteen (suc (suc (suc (suc (suc (suc (suc (suc (suc (suc (suc zero))))))))))) h = record { character = refl; digit = refl; worth = refl; small = refl; no_feed = refl }
below_sixteen (suc (suc (suc (suc (suc (suc (suc (suc (suc (suc (suc (suc zero)))))))))))) h = record { character = refl; digit = refl; worth = refl; small = refl; no_feed = refl }
below_sixteen (suc (suc (suc (suc (suc (suc (suc (suc (suc (suc (suc (suc (suc zero))))))))))))) h = record { character = refl; digit = refl; worth = refl; small = refl; no_feed = refl }
below_sixteen (suc (suc (suc (suc (suc (suc (suc (suc (suc (suc (suc (suc (suc (suc zero)))))))))))))) h = record { character = refl; digit = refl; worth = refl; small = refl; no_feed = refl }
below_sixteen (suc (suc (suc (suc (suc (suc (suc (suc (suc (suc (suc (suc (suc (suc (suc zero))))))))))))))) h = record { character = refl; digit = refl; worth = refl; small = refl; no_feed = refl }
below_sixteen (suc (suc (suc (suc (suc (suc (suc (suc (suc (suc (suc (suc (suc (suc (suc (suc value)))))))))))))))) h = absurd (omega arith)

digit_of : (n : ℕ) → IsDigit (n % 16)
digit_of n = below_sixteen (n % 16) (mod_below n 16 (lit< tt))

pub modify_named : (n : ℕ) → n < 16 → IsName (109 ∷ digit_char n ∷ [])
modify_named n h = let d = below_sixteen n h in record { whole = rw d.small; named = refl }

-- values, each of one digit
abbrev AreDigits : List ℕ → Type 0
AreDigits [] = Unit {0}
AreDigits (value ∷ values) = IsDigit value × AreDigits values

characters : (values : List ℕ) → AreDigits values → list_all is_word_character (map hex_digit values) ≡ true
characters [] h = refl
characters (value ∷ values) h = rw (h.0.character, characters values h.1)

digits : (values : List ℕ) → AreDigits values → list_all (λ digit. is_digit digit 16) (map hex_digit values) ≡ true
digits [] h = refl
digits (value ∷ values) h = rw (h.0.digit, digits values h.1)

abbrev number_after : ℕ → List ℕ → ℕ
number_after n [] = n
number_after n (value ∷ values) = number_after (n * 16 + value) values

worth : (values : List ℕ) (n : ℕ) → AreDigits values → digits_value_after 16 n (map hex_digit values) ≡ number_after n values
worth [] n h = refl
worth (value ∷ values) n h =
    ap (λ v. digits_value_after 16 (n * 16 + v) (map hex_digit values)) h.0.worth ∙ worth values (n * 16 + value) h.1

no_feeds : (values : List ℕ) → AreDigits values → list_any (λ byte. byte == 10) (map hex_digit values) ≡ false
no_feeds [] h = refl
no_feeds (value ∷ values) h = rw (h.0.no_feed, no_feeds values h.1)

no_feeds_around : (first second : List ℕ) → AreDigits first → AreDigits second
    → list_any (λ byte. byte == 10) (map hex_digit first ++ 32 ∷ map hex_digit second) ≡ false
no_feeds_around [] second h k = no_feeds second k
no_feeds_around (value ∷ first) second h k = rw (h.0.no_feed, no_feeds_around first second h.1 k)

when : (a b : Bool) (n m : ℕ) → a ≡ true → b ≡ true → n ≡ m → number_kind (if a && b then Some n else None) ≡ kind.Number m
when a b n m e f g = rw (e, f, g)

not_wide : (n : ℕ) → n < 2 ^ 32 → nat_le (2 ^ 32) n ≡ false
not_wide n h = grind (arith, nat_tests)

number_is : (value : ℕ) (values : List ℕ) (n : ℕ) → AreDigits (value ∷ values) → nat_lt 0 (length (map hex_digit (value ∷ values))) ≡ true
    → number_after 0 (value ∷ values) ≡ n → n < 2 ^ 32 → IsNumber (48 ∷ 120 ∷ map hex_digit (value ∷ values)) n
number_is value values n h some same narrow =
    let numbered : word_kind (48 ∷ 120 ∷ map hex_digit (value ∷ values)) ≡ kind.Number n =
    when _ _ (digits_value 16 (map hex_digit (value ∷ values))) n some (digits (value ∷ values) h) (worth (value ∷ values) 0 h ∙ same) in
    record {
      whole = characters (value ∷ values) h;
      numbered = numbered;
      narrow = ap is_wide_kind numbered ∙ not_wide n narrow;
    }

pub hex3_number : (n : ℕ) → n < 2 ^ 12 → IsNumber (48 ∷ 120 ∷ hex3 n) n
hex3_number n h =
    let small : n < 2 ^ 32 = omega arith in
    number_is (n / 2 ^ 8 % 16) (n / 2 ^ 4 % 16 ∷ n % 16 ∷ []) n (digit_of _, (digit_of _, (digit_of _, tt))) refl (omega arith) small

pub hex4_number : (n : ℕ) → n < 2 ^ 16 → IsNumber (48 ∷ 120 ∷ hex4 n) n
hex4_number n h =
    let small : n < 2 ^ 32 = omega arith in
    number_is (n / 2 ^ 12 % 16) (n / 2 ^ 8 % 16 ∷ n / 2 ^ 4 % 16 ∷ n % 16 ∷ []) n (digit_of _, (digit_of _, (digit_of _, (digit_of _, tt)))) refl (omega arith) small

pub hex6_number : (n : ℕ) → n < 2 ^ 24 → IsNumber (48 ∷ 120 ∷ hex6 n) n
hex6_number n h =
    let small : n < 2 ^ 32 = omega arith in
    number_is (n / 2 ^ 20 % 16) (n / 2 ^ 16 % 16 ∷ n / 2 ^ 12 % 16 ∷ n / 2 ^ 8 % 16 ∷ n / 2 ^ 4 % 16 ∷ n % 16 ∷ []) n
    (digit_of _, (digit_of _, (digit_of _, (digit_of _, (digit_of _, (digit_of _, tt)))))) refl (omega arith) small

-- the comments of a listing hold no line feed
pub program_comment : (at word : ℕ) → list_any (λ byte. byte == 10) (32 ∷ (hex3 at ++ 32 ∷ hex6 word)) ≡ false
program_comment at word =
    no_feeds_around (at / 2 ^ 8 % 16 ∷ at / 2 ^ 4 % 16 ∷ at % 16 ∷ [])
    (word / 2 ^ 20 % 16 ∷ word / 2 ^ 16 % 16 ∷ word / 2 ^ 12 % 16 ∷ word / 2 ^ 8 % 16 ∷ word / 2 ^ 4 % 16 ∷ word % 16 ∷ [])
    (digit_of _, (digit_of _, (digit_of _, tt))) (digit_of _, (digit_of _, (digit_of _, (digit_of _, (digit_of _, (digit_of _, tt))))))

pub data_comment : (at : ℕ) → list_any (λ byte. byte == 10) (32 ∷ hex3 at) ≡ false
data_comment at = no_feeds (at / 2 ^ 8 % 16 ∷ at / 2 ^ 4 % 16 ∷ at % 16 ∷ []) (digit_of _, (digit_of _, (digit_of _, tt)))
