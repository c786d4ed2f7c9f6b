-- `number` and `instr_of` are inverse.
use Rattle.std.proofs.Common.{◌≡◌, ℕ, zero, suc, ◌+◌, ◌*◌, ◌/◌, ◌%◌, ◌^◌, ◌<◌, Bool, true, false, ◌==◌, refl, sym, ap, ◌∙◌, subst, arith, lit<}
use Rattle.std.proofs.lemmas.Nat.{mod_below}
use Rattle.wb_word.specs.Codes.{p_code, alu_code, acc_code, dpl_code, src_code, dst_code, p_at, alu_at, acc_at, dpl_at, src_at, dst_at}
use Rattle.wb_word.specs.Conditions.{cond_code}
use Rattle.wb_word.specs.Encoding.{bit, fields, number, nibble_at, addr_at, spare_at, op_at, of_kind, instr_of}
use Rattle.wb_word.proofs.FieldCodes.{p_code_lt, alu_code_lt, acc_code_lt, dpl_code_lt, src_code_lt, dst_code_lt, p_at-code, alu_at-code, acc_at-code, dpl_at-code, src_at-code, dst_at-code, p_code-at, alu_code-at, acc_code-at, dpl_code-at, src_code-at, dst_code-at}
use Rattle.wb_word.proofs.CondCodes.{cond_code_lt, cond_at-code, cond_code-at}
use Rattle.wb_word.proofs.SameNumbers.{same_word, same_addr, same_nibble, same_spare}
use Rattle.wb_word.specs.declared.codes.P.{P}
use Rattle.wb_word.specs.declared.codes.Alu.{Alu}
use Rattle.wb_word.specs.declared.codes.Acc.{Acc}
use Rattle.wb_word.specs.declared.codes.Dpl.{Dpl}
use Rattle.wb_word.specs.declared.codes.Src.{Src}
use Rattle.wb_word.specs.declared.codes.Dst.{Dst}
use Rattle.wb_word.specs.declared.conditions.Cond.{Cond}
use Rattle.wb_word.specs.declared.numbers.Word.{Word}
use Rattle.wb_word.specs.declared.numbers.Nibble.{Nibble}
use Rattle.wb_word.specs.declared.numbers.Addr.{Addr}
use Rattle.wb_word.specs.declared.numbers.Spare.{Spare}
use Rattle.wb_word.specs.declared.words.OpWord.{OpWord}
use Rattle.wb_word.specs.declared.words.Instr.{Instr}
use Rattle.wb_word.specs.declared.words.Instr.TheVariants.{Op, Rt, Jp, Ld}

bit_lt : (b : Bool) → bit b < 2
bit_lt true = lit< tt
bit_lt false = lit< tt

bit-test : (b : Bool) → (bit b == 1) ≡ b
bit-test true = refl
bit-test false = refl

test-bit : (n : ℕ) → n < 2 → bit (n == 1) ≡ n
test-bit zero below = refl
test-bit (suc zero) below = refl
test-bit (suc (suc n)) below = absurd (omega arith)

-- the fields of a number that is a sum of fields
record IsParted (n p a c d h r s t : ℕ) : Type 0 where
  p_is : n / 2 ^ 20 % 4 ≡ p
  alu_is : n / 2 ^ 16 % 16 ≡ a
  acc_is : n / 2 ^ 15 % 2 ≡ c
  dpl_is : n / 2 ^ 13 % 4 ≡ d
  dphm_is : n / 2 ^ 9 % 16 ≡ h
  rpdec_is : n / 2 ^ 8 % 2 ≡ r
  src_is : n / 2 ^ 4 % 16 ≡ s
  dst_is : n % 16 ≡ t

parts : (k n p a c d h r s t : ℕ) → n ≡ k * 2 ^ 22 + (p * 2 ^ 20 + a * 2 ^ 16 + c * 2 ^ 15 + d * 2 ^ 13 + h * 2 ^ 9 + r * 2 ^ 8 + s * 2 ^ 4 + t) → p < 4 → a < 16 → c < 2 → d < 4 → h < 16 → r < 2 → s < 16 → t < 16 → IsParted n p a c d h r s t
parts k n p a c d h r s t e pb ab cb db hb rb sb tb =
    record {
      p_is = omega arith;
      alu_is = omega arith;
      acc_is = omega arith;
      dpl_is = omega arith;
      dphm_is = omega arith;
      rpdec_is = omega arith;
      src_is = omega arith;
      dst_is = omega arith;
    }

built : P → Alu → Acc → Dpl → Nibble → Bool → Src → Dst → OpWord
built p a c d h r s t =
    record { p = p; alu = a; acc = c; dpl = d; dphm = h; rpdec = r; src = s; dst = t }

built-same : (p p' : P) (a a' : Alu) (c c' : Acc) (d d' : Dpl) (h h' : Nibble) (r r' : Bool) (s s' : Src) (t t' : Dst) → p ≡ p' → a ≡ a' → c ≡ c' → d ≡ d' → h ≡ h' → r ≡ r' → s ≡ s' → t ≡ t' → built p a c d h r s t ≡ built p' a' c' d' h' r' s' t'
built-same p p' a a' c c' d d' h h' r r' s s' t t' e f g i j k l m = cc

op_at-fields : (o : OpWord) (k n : ℕ) → n ≡ k * 2 ^ 22 + fields o → op_at n ≡ o
unfolding built
op_at-fields o k n e =
    let q : IsParted n (p_code o.p) (alu_code o.alu) (acc_code o.acc) (dpl_code o.dpl) o.dphm.value (bit o.rpdec) (src_code o.src) (dst_code o.dst) =
    parts k n (p_code o.p) (alu_code o.alu) (acc_code o.acc) (dpl_code o.dpl) o.dphm.value (bit o.rpdec) (src_code o.src) (dst_code o.dst) e (p_code_lt o.p) (alu_code_lt o.alu) (acc_code_lt o.acc) (dpl_code_lt o.dpl) o.dphm.in_range (bit_lt o.rpdec) (src_code_lt o.src) (dst_code_lt o.dst) in
    built-same _ _ _ _ _ _ _ _ _ _ _ _ _ _ _ _
    (ap p_at q.p_is ∙ p_at-code o.p)
    (ap alu_at q.alu_is ∙ alu_at-code o.alu)
    (ap acc_at q.acc_is ∙ acc_at-code o.acc)
    (ap dpl_at q.dpl_is ∙ dpl_at-code o.dpl)
    (same_nibble (nibble_at (n / 2 ^ 9)) o.dphm q.dphm_is)
    (ap (λ b. b == 1) q.rpdec_is ∙ bit-test o.rpdec)
    (ap src_at q.src_is ∙ src_at-code o.src)
    (ap dst_at q.dst_is ∙ dst_at-code o.dst)

sum_lt : (p a c d h r s t : ℕ) → p < 4 → a < 16 → c < 2 → d < 4 → h < 16 → r < 2 → s < 16 → t < 16 → p * 2 ^ 20 + a * 2 ^ 16 + c * 2 ^ 15 + d * 2 ^ 13 + h * 2 ^ 9 + r * 2 ^ 8 + s * 2 ^ 4 + t < 2 ^ 22
sum_lt p a c d h r s t pb ab cb db hb rb sb tb = omega arith

fields_lt : (o : OpWord) → fields o < 2 ^ 22
fields_lt o =
    sum_lt (p_code o.p) (alu_code o.alu) (acc_code o.acc) (dpl_code o.dpl) o.dphm.value (bit o.rpdec) (src_code o.src) (dst_code o.dst) (p_code_lt o.p) (alu_code_lt o.alu) (acc_code_lt o.acc) (dpl_code_lt o.dpl) o.dphm.in_range (bit_lt o.rpdec) (src_code_lt o.src) (dst_code_lt o.dst)

-- the parts of a jump
record IsJump (n c a s : ℕ) : Type 0 where
  kind : n / 2 ^ 22 ≡ 2
  cond_is : n / 2 ^ 13 % 512 ≡ c
  na_is : n / 2 ^ 2 % 2048 ≡ a
  spare_is : n % 4 ≡ s

jump : (n c a s : ℕ) → n ≡ 2 * 2 ^ 22 + c * 2 ^ 13 + a * 2 ^ 2 + s → c < 512 → a < 2048 → s < 4 → IsJump n c a s
jump n c a s e cb ab sb =
    record { kind = omega arith; cond_is = omega arith; na_is = omega arith; spare_is = omega arith }

-- the parts of a load
record IsLoad (n v s t : ℕ) : Type 0 where
  kind : n / 2 ^ 22 ≡ 3
  value_is : n / 2 ^ 6 % 2 ^ 16 ≡ v
  spare_is : n / 2 ^ 4 % 4 ≡ s
  dst_is : n % 16 ≡ t

load : (n v s t : ℕ) → n ≡ 3 * 2 ^ 22 + v * 2 ^ 6 + s * 2 ^ 4 + t → n < 2 ^ 24 → s < 4 → t < 16 → IsLoad n v s t
load n v s t e nb sb tb =
    record { kind = omega arith; value_is = omega arith; spare_is = omega arith; dst_is = omega arith }

jp-same : (c c' : Cond) (a a' : Addr) (s s' : Spare) → c ≡ c' → a ≡ a' → s ≡ s' → Jp c a s ≡ Jp c' a' s'
jp-same c c' a a' s s' e f g = cc

ld-same : (v v' : ℕ) (s s' : Spare) (t t' : Dst) → v ≡ v' → s ≡ s' → t ≡ t' → Ld v s t ≡ Ld v' s' t'
ld-same v v' s s' t t' e f g = cc

-- an instruction whose word has 24 bits is that of its word
pub instr_of-number : (i : Instr) → number i < 2 ^ 24 → instr_of (number i) ≡ i
unfolding instr_of
instr_of-number (Op o) below =
    let low : fields o < 2 ^ 22 = fields_lt o in
    let kind : fields o / 2 ^ 22 ≡ 0 = omega arith in
    ap (λ k. of_kind k (fields o)) kind ∙ ap Op (op_at-fields o 0 (fields o) (omega arith))
instr_of-number (Rt o) below =
    let low : fields o < 2 ^ 22 = fields_lt o in
    let kind : (2 ^ 22 + fields o) / 2 ^ 22 ≡ 1 = omega arith in
    ap (λ k. of_kind k (2 ^ 22 + fields o)) kind ∙ ap Rt (op_at-fields o 1 (2 ^ 22 + fields o) (omega arith))
instr_of-number (Jp c a s) below =
    let n : ℕ = number (Jp c a s) in
    let q : IsJump n (cond_code c) a.value s.value = jump n (cond_code c) a.value s.value refl (cond_code_lt c) a.in_range s.in_range in
    ap (λ k. of_kind k n) q.kind ∙ jp-same _ _ _ _ _ _
    (cond_at-code c (n / 2 ^ 13 % 512) (mod_below (n / 2 ^ 13) 512 (lit< tt)) (sym q.cond_is))
    (same_addr (addr_at (n / 2 ^ 2)) a q.na_is)
    (same_spare (spare_at n) s q.spare_is)
instr_of-number (Ld v s t) below =
    let n : ℕ = number (Ld v s t) in
    let q : IsLoad n v s.value (dst_code t) = load n v s.value (dst_code t) refl below s.in_range (dst_code_lt t) in
    ap (λ k. of_kind k n) q.kind ∙ ld-same _ _ _ _ _ _ q.value_is
    (same_spare (spare_at (n / 2 ^ 4)) s q.spare_is)
    (ap dst_at q.dst_is ∙ dst_at-code t)

-- a number is the sum of its fields
summed : (n p a c d h r s t : ℕ) → IsParted n p a c d h r s t → p * 2 ^ 20 + a * 2 ^ 16 + c * 2 ^ 15 + d * 2 ^ 13 + h * 2 ^ 9 + r * 2 ^ 8 + s * 2 ^ 4 + t ≡ n % 2 ^ 22
summed n p a c d h r s t q =
    omega (arith, q.p_is, q.alu_is, q.acc_is, q.dpl_is, q.dphm_is, q.rpdec_is, q.src_is, q.dst_is)

fields-op_at : (n : ℕ) → fields (op_at n) ≡ n % 2 ^ 22
fields-op_at n =
    summed n _ _ _ _ _ _ _ _ (record {
      p_is = sym (p_code-at (n / 2 ^ 20 % 4) (mod_below (n / 2 ^ 20) 4 (lit< tt)));
      alu_is = sym (alu_code-at (n / 2 ^ 16 % 16) (mod_below (n / 2 ^ 16) 16 (lit< tt)));
      acc_is = sym (acc_code-at (n / 2 ^ 15 % 2) (mod_below (n / 2 ^ 15) 2 (lit< tt)));
      dpl_is = sym (dpl_code-at (n / 2 ^ 13 % 4) (mod_below (n / 2 ^ 13) 4 (lit< tt)));
      dphm_is = refl;
      rpdec_is = sym (test-bit (n / 2 ^ 8 % 2) (mod_below (n / 2 ^ 8) 2 (lit< tt)));
      src_is = sym (src_code-at (n / 2 ^ 4 % 16) (mod_below (n / 2 ^ 4) 16 (lit< tt)));
      dst_is = sym (dst_code-at (n % 16) (mod_below n 16 (lit< tt)));
    })

number-of_kind : (k n : ℕ) → n / 2 ^ 22 ≡ k → n < 2 ^ 24 → number (of_kind k n) ≡ n
number-of_kind zero n e below = omega (arith, fields-op_at n)
number-of_kind (suc zero) n e below = omega (arith, fields-op_at n)
number-of_kind (suc (suc zero)) n e below =
    omega (arith, cond_code-at (n / 2 ^ 13 % 512) (mod_below (n / 2 ^ 13) 512 (lit< tt)))
number-of_kind (suc (suc (suc k))) n e below =
    omega (arith, dst_code-at (n % 16) (mod_below n 16 (lit< tt)))

-- the word of its instruction is the number itself
pub number-instr_of : (n : ℕ) → n < 2 ^ 24 → number (instr_of n) ≡ n
unfolding instr_of
number-instr_of n below = number-of_kind (n / 2 ^ 22) n refl below

-- the instruction with this word
pub instr_of_word : (i : Instr) (n : ℕ) → number i ≡ n → n < 2 ^ 24 → i ≡ instr_of n
instr_of_word i n e below =
    let small : number i < 2 ^ 24 = subst (λ m. m < 2 ^ 24) (sym e) below in
    sym (instr_of-number i small) ∙ ap instr_of e

-- the word with this instruction
pub word_of_instr : (w v : Word) (i : Instr) → v.value ≡ number i → instr_of w.value ≡ i → w ≡ v
word_of_instr w v i e f =
    same_word w v (sym (number-instr_of w.value w.in_range) ∙ ap number f ∙ sym e)

pub ruleset inverse = (number-instr_of, instr_of-number)

pub same_number : (i j : Instr) (n : ℕ) → number i ≡ n → number j ≡ n → n < 2 ^ 24 → i ≡ j
same_number i j n e f below = instr_of_word i n e below ∙ sym (instr_of_word j n f below)
