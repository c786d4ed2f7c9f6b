-- The place that is looked up, bit by bit from the highest.
use Rattle.std.proofs.Common.{◌≡◌, ℕ, ◌+◌, ◌-◌, ◌*◌, ◌%◌, ◌^◌, ◌<◌, Bool, true, false, if◌then◌else◌, List, length, slice_index, sym, ◌∙◌, ap, arith}
use Rattle.std.proofs.Math.Nat.{add_comm}
use Rattle.std.proofs.lemmas.Nat.{mod-pow-add, pow_pos}
use Rattle.wb_gate.specs.Circuit.{Circuit, Assignment}
use Rattle.wb_gate.specs.Growth.{Extends}
use Rattle.wb_term.specs.Numbers.{bit}
use Rattle.wb_equal.specs.declared.entries.Entry.{Entry}
use Rattle.wb_equal.specs.Entries.{entry_value}
use Rattle.wb_blast.specs.Words.{number, entry_at, IsNumber}
use Rattle.wb_blast.proofs.Bits.{number_bit}
use Rattle.wb_blast.proofs.Sums.{extends_more, pow_next}

-- the powers that a step deals with
pub record Halved (bits rest : ℕ) : Type 0 where
  pub next : rest + 1 ≡ bits
  pub power : 2 ^ bits ≡ 2 ^ rest * 2
  pub some : 0 < 2 ^ rest

pub halved_bits : (bits : ℕ) → 0 < bits → Halved bits (bits - 1)
halved_bits bits h =
    let next : bits - 1 + 1 ≡ bits = omega (arith, h) in
    record {
      next = next;
      power = ap (λ n. 2 ^ n) (sym next) ∙ pow_next (bits - 1);
      some = pow_pos (bits - 1);
    }

-- the low bits of a number
pub low_bits : (v : Assignment) (x : List Entry) (bits rest : ℕ) → rest < length x → rest + 1 ≡ bits →
    number v x % 2 ^ bits ≡ bit (entry_value v (entry_at x rest)) * 2 ^ rest + number v x % 2 ^ rest
low_bits v x bits rest within next =
    ap (λ n. number v x % 2 ^ n) (sym next ∙ add_comm rest 1) ∙ mod-pow-add (number v x) 1 rest
    ∙ ap (λ b. b * 2 ^ rest + number v x % 2 ^ rest) (number_bit v x rest within)

picked : (words : List ℕ) (b : Bool) (first middle n P m : ℕ) → middle ≡ first + P → m ≡ bit b * P + n →
    (if b then slice_index words (middle + n) else slice_index words (first + n)) ≡ slice_index words (first + m)
picked words true first middle n P m e f = ap (slice_index words) (omega (arith, e, f))
picked words false first middle n P m e f = ap (slice_index words) (omega (arith, f))

pub looked_none : (v : Assignment) (x : List Entry) (words : List ℕ) (bits first n : ℕ) → bits ≡ 0 → n ≡ slice_index words first →
    n ≡ slice_index words (first + number v x % 2 ^ bits)
looked_none v x words bits first n e f = f ∙ ap (slice_index words) (let none : number v x % 2 ^ bits ≡ 0 = ap (λ b. number v x % 2 ^ b) e ∙ mod_one (number v x) in omega (arith, none)) where
  mod_one : (n : ℕ) → n % 2 ^ 0 ≡ 0
  mod_one n = omega arith

pub looked_known : (c : Circuit) (x w : List Entry) (words : List ℕ) (bits rest first middle from : ℕ) (b : Bool) → rest < length x → Halved bits rest → middle ≡ first + 2 ^ rest →
    ((v : Assignment) → entry_value v (entry_at x rest) ≡ b) → from ≡ (if b then middle else first) →
    IsNumber c w (λ v. slice_index words (from + number v x % 2 ^ rest)) → IsNumber c w (λ v. slice_index words (first + number v x % 2 ^ bits))
looked_known c x w words bits rest first middle from b within halved is known start number_is = record {
  there = number_is.there;
  value = λ v o. number_is.value v o ∙ ap (slice_index words)
      (place b first middle from (2 ^ rest) (number v x % 2 ^ rest) (number v x % 2 ^ bits) start is
      (low_bits v x bits rest within halved.next ∙ ap (λ b. bit b * 2 ^ rest + number v x % 2 ^ rest) (known v)));
} where
  place : (b : Bool) (first middle from P n m : ℕ) → from ≡ (if b then middle else first) → middle ≡ first + P → m ≡ bit b * P + n → from + n ≡ first + m
  place true first middle from P n m e f g = omega (arith, e, f, g)
  place false first middle from P n m e f g = omega (arith, e, g)

pub looked_chosen : (old mid new last : Circuit) (x high low w : List Entry) (words : List ℕ) (bits rest first middle some more : ℕ) → rest < length x → Halved bits rest → middle ≡ first + 2 ^ rest →
    Extends mid new more → Extends new last some →
    IsNumber mid high (λ v. slice_index words (middle + number v x % 2 ^ rest)) → IsNumber new low (λ v. slice_index words (first + number v x % 2 ^ rest)) →
    IsNumber last w (λ v. if entry_value v (entry_at x rest) then number v high else number v low) →
    IsNumber last w (λ v. slice_index words (first + number v x % 2 ^ bits))
looked_chosen old mid new last x high low w words bits rest first middle some more within halved is one two is_high is_low is_w = record {
  there = is_w.there;
  value = λ v o.
      let before = two.obeys v o in
      is_w.value v o
      ∙ ap (λ h. if entry_value v (entry_at x rest) then h else number v low) (is_high.value v (one.obeys v before))
      ∙ ap (λ l. if entry_value v (entry_at x rest) then slice_index words (middle + number v x % 2 ^ rest) else l) (is_low.value v before)
      ∙ picked words (entry_value v (entry_at x rest)) first middle (number v x % 2 ^ rest) (2 ^ rest) (number v x % 2 ^ bits) is (low_bits v x bits rest within halved.next);
}

pub looked_extends : (old mid new last : Circuit) (bits rest : ℕ) → Halved bits rest → Extends old mid (16 * (2 ^ rest - 1)) → Extends mid new (16 * (2 ^ rest - 1)) → Extends new last 16 →
    Extends old last (16 * (2 ^ bits - 1))
looked_extends old mid new last bits rest halved one two three =
    let power = halved.power in let some = halved.some in
    extends_more old new last (16 * (2 ^ rest - 1) + 16 * (2 ^ rest - 1)) 16 (16 * (2 ^ bits - 1)) (omega (arith, power, some))
    (extends_more old mid new (16 * (2 ^ rest - 1)) (16 * (2 ^ rest - 1)) (16 * (2 ^ rest - 1) + 16 * (2 ^ rest - 1)) (omega arith) one two) three

pub looked_part : (old mid : Circuit) (bits rest : ℕ) → Halved bits rest → Extends old mid (16 * (2 ^ rest - 1)) → Extends old mid (16 * (2 ^ bits - 1))
looked_part old mid bits rest halved ext = record {
  obeys = ext.obeys;
  same_inputs = ext.same_inputs;
  same_limit = ext.same_limit;
  longer = ext.longer;
  most = (let most = ext.most in let power = halved.power in omega (arith, most, power));
}
