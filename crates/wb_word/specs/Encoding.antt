-- Each word is one instruction: its fields times powers of two, the highest first.
--
-- The two highest bits give the kind: 0 computes and moves, 1 also returns, 2 jumps, 3 loads.
use Rattle.std.specs.Prelude.{ℕ, zero, suc, ◌+◌, ◌*◌, ◌/◌, ◌%◌, ◌^◌, Bool, true, false, ◌==◌}
use Rattle.std.proofs.Common.{lit<}
use Rattle.std.proofs.lemmas.Nat.{mod_below}
use Rattle.wb_word.specs.Codes.{p_code, alu_code, acc_code, dpl_code, src_code, dst_code, p_at, alu_at, acc_at, dpl_at, src_at, dst_at}
use Rattle.wb_word.specs.Conditions.{cond_code, cond_at}
use Rattle.wb_word.specs.declared.numbers.Addr.{Addr}
use Rattle.wb_word.specs.declared.numbers.Nibble.{Nibble}
use Rattle.wb_word.specs.declared.numbers.Spare.{Spare}
use Rattle.wb_word.specs.declared.words.OpWord.{OpWord}
use Rattle.wb_word.specs.declared.words.Instr.{Instr}
use Rattle.wb_word.specs.declared.words.Instr.TheVariants.{Op, Rt, Jp, Ld}

abbrev pub bit : Bool → ℕ
bit true = 1
bit false = 0

-- the 22 low bits of a word that computes and moves
abbrev pub fields : OpWord → ℕ
fields o =
    p_code o.p * 2 ^ 20 + alu_code o.alu * 2 ^ 16 + acc_code o.acc * 2 ^ 15 + dpl_code o.dpl * 2 ^ 13
    + o.dphm.value * 2 ^ 9 + bit o.rpdec * 2 ^ 8 + src_code o.src * 2 ^ 4 + dst_code o.dst

-- the word of an instruction
abbrev pub number : Instr → ℕ
number (Op o) = fields o
number (Rt o) = 2 ^ 22 + fields o
number (Jp c na spare) = 2 * 2 ^ 22 + cond_code c * 2 ^ 13 + na.value * 2 ^ 2 + spare.value
number (Ld value spare dst) = 3 * 2 ^ 22 + value * 2 ^ 6 + spare.value * 2 ^ 4 + dst_code dst

abbrev pub nibble_at : ℕ → Nibble
nibble_at n = record { value = n % 16; in_range = mod_below n 16 (lit< tt) }

abbrev pub addr_at : ℕ → Addr
addr_at n = record { value = n % 2048; in_range = mod_below n 2048 (lit< tt) }

abbrev pub spare_at : ℕ → Spare
spare_at n = record { value = n % 4; in_range = mod_below n 4 (lit< tt) }

abbrev pub op_at : ℕ → OpWord
op_at n =
    record {
      p = p_at (n / 2 ^ 20 % 4);
      alu = alu_at (n / 2 ^ 16 % 16);
      acc = acc_at (n / 2 ^ 15 % 2);
      dpl = dpl_at (n / 2 ^ 13 % 4);
      dphm = nibble_at (n / 2 ^ 9);
      rpdec = n / 2 ^ 8 % 2 == 1;
      src = src_at (n / 2 ^ 4 % 16);
      dst = dst_at (n % 16);
    }

-- the instruction of a word, by its kind
abbrev pub of_kind : ℕ → ℕ → Instr
of_kind zero n = Op (op_at n)
of_kind (suc zero) n = Rt (op_at n)
of_kind (suc (suc zero)) n =
    Jp (cond_at (n / 2 ^ 13 % 512) (mod_below (n / 2 ^ 13) 512 (lit< tt))) (addr_at (n / 2 ^ 2)) (spare_at n)
of_kind _ n = Ld (n / 2 ^ 6 % 2 ^ 16) (spare_at (n / 2 ^ 4)) (dst_at (n % 16))

-- the instruction of a word below 2 ^ 24
unfoldable pub instr_of : ℕ → Instr
instr_of n = of_kind (n / 2 ^ 22) n
