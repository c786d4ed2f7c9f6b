-- The rows of a product, one after the other.
use Rattle.std.proofs.Common.{◌≡◌, ℕ, ◌+◌, ◌-◌, ◌*◌, ◌^◌, ◌<◌, if◌then◌else◌, List, length, take, refl, sym, ◌∙◌, ap, ap₂, arith}
use Rattle.std.proofs.lemmas.List.{take_all}
use Rattle.wb_gate.specs.Circuit.{Circuit, Assignment, variables}
use Rattle.wb_gate.specs.Growth.{Extends}
use Rattle.wb_term.specs.Numbers.{product}
use Rattle.wb_equal.specs.declared.entries.Entry.{Entry}
use Rattle.wb_blast.specs.declared.products.Double.{Double}
use Rattle.wb_blast.specs.Doubles.{double, extended, cut_double, IsDouble, IsDoubleBelow, Multiplied}
use Rattle.wb_equal.specs.Entries.{entry_value}
use Rattle.wb_blast.specs.Words.{number, entry_at}
use Rattle.wb_blast.proofs.Sums.{below_kept, extends_more, number_taken, number_small, taken_lt, pow_next}
use Rattle.wb_blast.proofs.Multiples.{row_added, row_twice, rows_total}

double_kept : (old new : Circuit) (room : ℕ) (d : Double) → Extends old new room → IsDoubleBelow (variables old) d → IsDoubleBelow (variables new) d
double_kept old new room d ext h = (λ k. below_kept old new room (entry_at d.low k) ext (h.0 k), λ k. below_kept old new room (entry_at d.high k) ext (h.1 k))

extends_none : (c : Circuit) → Extends c c (128 * 0)
extends_none c = record { obeys = λ v o. o; same_inputs = refl; same_limit = refl; longer = omega arith; most = omega arith }

first_row : (E d t : ℕ) → d ≡ E → t ≡ cut_double (2 * d) → t ≡ cut_double (2 ^ 0 * (2 * E))
first_row E d t e f = omega (arith, e, f)

pub multiplied_none : (c : Circuit) (x y : List Entry) (sum whole row : Double) → IsDoubleBelow (variables c) sum → IsDoubleBelow (variables c) row →
    ((v : Assignment) → double v sum ≡ 0) → ((v : Assignment) → double v whole ≡ extended (number v x)) → ((v : Assignment) → double v row ≡ cut_double (2 * double v whole)) →
    Multiplied c c x y sum row 0
multiplied_none c x y sum whole row sum_there row_there zero is twice = record {
  extends = extends_none c;
  sum_there = sum_there;
  row_there = row_there;
  row_value = λ v. first_row (extended (number v x)) (double v whole) (double v row) (is v) (twice v);
  sum_value = λ v o. zero v ∙ sym (ap cut_double (let none : 2 * extended (number v x) * 0 ≡ 0 = grind arith in none));
}

pub multiplied_more : (old mid new : Circuit) (x y : List Entry) (sum row more next : Double) (at : ℕ) → at < length y → Multiplied old mid x y sum row at → Extends mid new 128 →
    IsDouble new more (λ v. cut_double (double v sum + (if entry_value v (entry_at y at) then double v row else 0))) → IsDoubleBelow (variables old) next →
    ((v : Assignment) → double v next ≡ cut_double (2 * double v row)) → Multiplied old new x y more next (at + 1)
multiplied_more old mid new x y sum row more next at within so_far ext is there twice = record {
  extends = extends_more old mid new (128 * at) 128 (128 * (at + 1)) (omega arith) so_far.extends ext;
  sum_there = is.there;
  row_there = there;
  row_value = λ v.
      twice v ∙ ap (λ n. cut_double (2 * n)) (so_far.row_value v) ∙ row_twice (2 * extended (number v x)) (2 ^ at) (2 ^ (at + 1)) (pow_next at);
  sum_value = λ v o.
      is.value v o
      ∙ ap₂ (λ s r. cut_double (s + (if entry_value v (entry_at y at) then r else 0))) (so_far.sum_value v (ext.obeys v o)) (so_far.row_value v)
      ∙ row_added (2 * extended (number v x)) (number v (take at y)) (2 ^ at) (entry_value v (entry_at y at))
      ∙ ap (λ n. cut_double (2 * extended (number v x) * n)) (sym (number_taken v y at within));
}

pub multiplied_all : (old mid new : Circuit) (x y : List Entry) (sum row last : Double) → length x ≡ 16 → length y ≡ 16 → Multiplied old mid x y sum row 15 → Extends mid new 128 →
    IsDouble new last (λ v. cut_double (double v sum + 4294967296 - (if entry_value v (entry_at y 15) then double v row else 0))) →
    IsDouble new last (λ v. product (number v x) (number v y))
multiplied_all old mid new x y sum row last in_x in_y so_far ext is = record {
  there = is.there;
  value = λ v o.
      let whole : number v (take 16 y) ≡ number v y = ap (number v) (take_all 16 y (omega (arith, in_y))) in
      let taken = number_taken v y 15 (omega (arith, in_y)) in
      is.value v o
      ∙ rows_total (number v x) (number v y) (number v (take 15 y)) (double v sum) (double v row) (entry_value v (entry_at y 15))
      (number_small v x in_x) (taken_lt v y 15 (omega (arith, in_y))) (omega (arith, whole, taken))
      (so_far.sum_value v (ext.obeys v o)) (so_far.row_value v);
}
