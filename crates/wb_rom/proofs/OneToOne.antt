-- A file has exactly one image, and an image exactly one file.
use Rattle.std.proofs.Common.{◌≡◌, ℕ, zero, suc, ◌+◌, ◌-◌, ◌*◌, ◌/◌, ◌%◌, ◌<◌, ◌≤◌, ◌^◌, List, length, slice_index, map, Bool, true, false, refl, sym, ◌∙◌, ap, subst, arith, add-zero}
use Rattle.std.specs.Prelude.{if◌then◌else◌, nat_lt}
use Rattle.std.proofs.lemmas.List.{ext_get_or}
use Rattle.std.specs.List.{range_with_len}
use Rattle.std.proofs.lemmas.List.FromFn.{get_or-map-range_with_len, length-map-range_with_len}
use Rattle.std.proofs.lemmas.Bool.{ltb-true, ltb-false, lt-ltb, le-ltb}
use Rattle.std.proofs.Props.{props}
use Rattle.wb_word.specs.Table.{IsTable}
use Rattle.wb_rom.specs.declared.images.Image.{Image}
use Rattle.wb_rom.specs.ImageBytes.{IsImageOf, pair_at, triple_at}

-- lists of `n` numbers that agree at each place are one
same_list : (n : ℕ) (xs ys : List ℕ) → length xs ≡ n → length ys ≡ n
    → ((k : ℕ) → k < n → slice_index xs k ≡ slice_index ys k) → xs ≡ ys
same_list n xs ys hx hy h = ext_get_or 0 xs ys (hx ∙ sym hy) (λ k lt. h k (omega (arith, lt, hx)))

table_prop : (n bits : ℕ) (xs : List ℕ) → IsProp (IsTable n bits xs)
table_prop n bits xs = hlevel props

abbrev built : (p d : List ℕ) → IsTable 2048 24 p → IsTable 1024 16 d → Image
built p d hp hd = record { prog = p; drom = d; prog_table = hp; drom_table = hd }

same_prog : (p q d : List ℕ) (hp : IsTable 2048 24 p) (hq : IsTable 2048 24 q) (hd : IsTable 1024 16 d)
    → p ≡ q → built p d hp hd ≡ built q d hq hd
same_prog p q d hp hq hd e =
    let P : List ℕ → Type 0 = λ x. (h : IsTable 2048 24 x) → built p d hp hd ≡ built x d h hd in
    subst P e (λ h. ap (λ (t : IsTable 2048 24 p). built p d t hd) (table_prop 2048 24 p hp h)) hq

same_drom : (p d c : List ℕ) (hp : IsTable 2048 24 p) (hd : IsTable 1024 16 d) (hc : IsTable 1024 16 c)
    → d ≡ c → built p d hp hd ≡ built p c hp hc
same_drom p d c hp hd hc e =
    let P : List ℕ → Type 0 = λ x. (h : IsTable 1024 16 x) → built p d hp hd ≡ built p x hp h in
    subst P e (λ h. ap (λ (t : IsTable 1024 16 d). built p d hp t) (table_prop 1024 16 d hd h)) hc

-- images with equal memories are one
pub same_image : (first second : Image) → first.prog ≡ second.prog → first.drom ≡ second.drom → first ≡ second
same_image first second e f =
    same_prog first.prog second.prog first.drom first.prog_table second.prog_table first.drom_table e
    ∙ same_drom second.prog first.drom second.drom second.prog_table first.drom_table second.drom_table f

pub one_image : (bytes : List ℕ) (first second : Image) → IsImageOf bytes first → IsImageOf bytes second
    → first ≡ second
one_image bytes first second hf hs =
    same_image first second
    (same_list 2048 first.prog second.prog first.prog_table.len second.prog_table.len
    (λ k lt. hf.prog k lt ∙ sym (hs.prog k lt)))
    (same_list 1024 first.drom second.drom first.drom_table.len second.drom_table.len
    (λ k lt. hf.drom k lt ∙ sym (hs.drom k lt)))

-- byte `r` of a number, the lowest being byte 0
abbrev digit : ℕ → ℕ → ℕ
digit zero n = n % 256
digit (suc zero) n = n / 256 % 256
digit (suc (suc r)) n = n / 65536

-- the byte at place `k` of an image's file
abbrev program_byte : Image → ℕ → ℕ
program_byte image k = digit (k % 3) (slice_index image.prog (k / 3))

abbrev data_byte : Image → ℕ → ℕ
data_byte image k = digit (k % 2) (slice_index image.drom (k / 2))

digit_of_triple : (bytes : List ℕ) (at r n : ℕ) → r < 3 → slice_index bytes at < 256
    → slice_index bytes (at + 1) < 256 → slice_index bytes (at + 2) < 256 → n ≡ triple_at bytes at
    → slice_index bytes (at + r) ≡ digit r n
digit_of_triple bytes at zero n h low middle high e = rw add-zero (omega (arith, low, middle, high, e))
digit_of_triple bytes at (suc zero) n h low middle high e = omega (arith, low, middle, high, e)
digit_of_triple bytes at (suc (suc zero)) n h low middle high e = omega (arith, low, middle, high, e)
digit_of_triple bytes at (suc (suc (suc r))) n h low middle high e = absurd (omega (arith, h))

digit_of_pair : (bytes : List ℕ) (at r n : ℕ) → r < 2 → slice_index bytes at < 256
    → slice_index bytes (at + 1) < 256 → n ≡ pair_at bytes at → slice_index bytes (at + r) ≡ digit r n
digit_of_pair bytes at zero n h low high e = rw add-zero (omega (arith, low, high, e))
digit_of_pair bytes at (suc zero) n h low high e = omega (arith, low, high, e)
digit_of_pair bytes at (suc (suc r)) n h low high e = absurd (omega (arith, h))

at_program : (bytes : List ℕ) (image : Image) → IsImageOf bytes image → (k : ℕ) → k < 6144
    → slice_index bytes k ≡ program_byte image k
at_program bytes image h k lt =
    let q : ℕ = k / 3 in
    let split : k ≡ 3 * (k / 3) + k % 3 = omega arith in
    let there : slice_index bytes (3 * (k / 3) + k % 3) ≡ digit (k % 3) (slice_index image.prog (k / 3)) =
    digit_of_triple bytes (3 * (k / 3)) (k % 3) (slice_index image.prog (k / 3)) (omega arith)
    (h.each_byte (3 * (k / 3)) (omega (arith, lt))) (h.each_byte (3 * (k / 3) + 1) (omega (arith, lt)))
    (h.each_byte (3 * (k / 3) + 2) (omega (arith, lt))) (h.prog (k / 3) (omega (arith, lt))) in
    ap (λ i. slice_index bytes i) split ∙ there

at_data : (bytes : List ℕ) (image : Image) → IsImageOf bytes image → (k : ℕ) → k < 2048
    → slice_index bytes (6144 + k) ≡ data_byte image k
at_data bytes image h k lt =
    let split : 6144 + k ≡ 6144 + 2 * (k / 2) + k % 2 = omega arith in
    let there : slice_index bytes (6144 + 2 * (k / 2) + k % 2) ≡ digit (k % 2) (slice_index image.drom (k / 2)) =
    digit_of_pair bytes (6144 + 2 * (k / 2)) (k % 2) (slice_index image.drom (k / 2)) (omega arith)
    (h.each_byte (6144 + 2 * (k / 2)) (omega (arith, lt))) (h.each_byte (6144 + 2 * (k / 2) + 1) (omega (arith, lt)))
    (h.drom (k / 2) (omega (arith, lt))) in
    ap (λ i. slice_index bytes i) split ∙ there

-- the byte at a place of an image's file
abbrev file_byte : Image → ℕ → ℕ
file_byte image k = if nat_lt k 6144 then program_byte image k else data_byte image (k - 6144)

either : (b : Bool) (x y z : ℕ) → (b ≡ true → x ≡ y) → (b ≡ false → x ≡ z) → x ≡ (if b then y else z)
either true x y z first second = first refl
either false x y z first second = second refl

at_place : (bytes : List ℕ) (image : Image) → IsImageOf bytes image → (k : ℕ) → k < 8192
    → slice_index bytes k ≡ file_byte image k
at_place bytes image h k lt =
    either (nat_lt k 6144) (slice_index bytes k) (program_byte image k) (data_byte image (k - 6144))
    (λ e. at_program bytes image h k (ltb-true k 6144 e))
    (λ e.
    let past : 6144 ≤ k = ltb-false k 6144 e in
    let split : k ≡ 6144 + (k - 6144) = omega (arith, past) in
    ap (λ i. slice_index bytes i) split ∙ at_data bytes image h (k - 6144) (omega (arith, past, lt)))

pub one_file : (first second : List ℕ) (image : Image) → IsImageOf first image → IsImageOf second image
    → first ≡ second
one_file first second image hf hs =
    same_list 8192 first second hf.len hs.len
    (λ k lt. at_place first image hf k lt ∙ sym (at_place second image hs k lt))

-- the first `n` values of a function
listed : (f : ℕ → ℕ) (n : ℕ)
    → (xs : List ℕ) × ((length xs ≡ n) × ((k : ℕ) → k < n → slice_index xs k ≡ f k))
listed f n = (
  map f (range_with_len 0 n),
  (length-map-range_with_len f 0 n, λ k lt. get_or-map-range_with_len f 0 n k k 0 lt (omega arith)),
)

pub some_image : (bytes : List ℕ) → length bytes ≡ 8192 → ((k : ℕ) → k < 8192 → slice_index bytes k < 256)
    → (image : Image) × IsImageOf bytes image
some_image bytes len each =
    let words : (xs : List ℕ) × ((length xs ≡ 2048) × ((k : ℕ) → k < 2048 → slice_index xs k ≡ triple_at bytes (3 * k))) =
    listed (λ k. triple_at bytes (3 * k)) 2048 in
    let pairs : (xs : List ℕ) × ((length xs ≡ 1024) × ((k : ℕ) → k < 1024 → slice_index xs k ≡ pair_at bytes (6144 + 2 * k))) =
    listed (λ k. pair_at bytes (6144 + 2 * k)) 1024 in (
      record {
        prog = words.0;
        drom = pairs.0;
        prog_table = record {
          len = words.1.0;
          each = λ k lt. rw (words.1.1 k lt)
              (omega (arith, each (3 * k) (omega (arith, lt)), each (3 * k + 1) (omega (arith, lt)), each (3 * k + 2) (omega (arith, lt))));
        };
        drom_table = record {
          len = pairs.1.0;
          each = λ k lt. rw (pairs.1.1 k lt)
              (omega (arith, each (6144 + 2 * k) (omega (arith, lt)), each (6144 + 2 * k + 1) (omega (arith, lt))));
        };
      },
      record { len = len; each_byte = each; prog = words.1.1; drom = pairs.1.1 },
    )

digit_below : (r n : ℕ) → n < 2 ^ 24 → digit r n < 256
digit_below zero n h = omega arith
digit_below (suc zero) n h = omega arith
digit_below (suc (suc r)) n h = omega (arith, h)

in_program : (image : Image) (k q r : ℕ) → k < 6144 → k ≡ 3 * q + r → r < 3
    → file_byte image k ≡ digit r (slice_index image.prog q)
in_program image k q r lt split small =
    let first_part : nat_lt k 6144 ≡ true = lt-ltb k 6144 lt in
    let quotient : k / 3 ≡ q = omega (arith, split, small) in
    let rest : k % 3 ≡ r = omega (arith, split, small) in
    rw (first_part, quotient, rest) refl

in_data : (image : Image) (k q r : ℕ) → 6144 ≤ k → k ≡ 6144 + 2 * q + r → r < 2
    → file_byte image k ≡ digit r (slice_index image.drom q)
in_data image k q r past split small =
    let second_part : nat_lt k 6144 ≡ false = le-ltb k 6144 past in
    let quotient : (k - 6144) / 2 ≡ q = omega (arith, split, small) in
    let rest : (k - 6144) % 2 ≡ r = omega (arith, split, small) in
    rw (second_part, quotient, rest) refl

below_either : (b : Bool) (y z : ℕ) → (b ≡ true → y < 256) → (b ≡ false → z < 256) → (if b then y else z) < 256
below_either true y z first second = first refl
below_either false y z first second = second refl

byte_below : (image : Image) (k : ℕ) → k < 8192 → file_byte image k < 256
byte_below image k lt =
    below_either (nat_lt k 6144) (program_byte image k) (data_byte image (k - 6144))
    (λ e.
    let below : k < 6144 = ltb-true k 6144 e in
    digit_below (k % 3) (slice_index image.prog (k / 3)) (image.prog_table.each (k / 3) (omega (arith, below))))
    (λ e.
    let within = image.drom_table.each ((k - 6144) / 2) (omega (arith, lt)) in
    digit_below ((k - 6144) % 2) (slice_index image.drom ((k - 6144) / 2)) (omega (arith, within)))

pub some_file : (image : Image) → (bytes : List ℕ) × IsImageOf bytes image
some_file image =
    let file : (xs : List ℕ) × ((length xs ≡ 8192) × ((k : ℕ) → k < 8192 → slice_index xs k ≡ file_byte image k)) =
    listed (file_byte image) 8192 in (
      file.0,
      record {
        len = file.1.0;
        each_byte = λ k lt. rw (file.1.1 k lt) (byte_below image k lt);
        prog = λ k lt.
            let low = file.1.1 (3 * k) (omega (arith, lt)) ∙ in_program image (3 * k) k 0 (omega (arith, lt)) (omega arith) (omega arith) in
            let middle = file.1.1 (3 * k + 1) (omega (arith, lt)) ∙ in_program image (3 * k + 1) k 1 (omega (arith, lt)) (omega arith) (omega arith) in
            let high = file.1.1 (3 * k + 2) (omega (arith, lt)) ∙ in_program image (3 * k + 2) k 2 (omega (arith, lt)) (omega arith) (omega arith) in
            omega (arith, low, middle, high);
        drom = λ k lt.
            let within = image.drom_table.each k lt in
            let low = file.1.1 (6144 + 2 * k) (omega (arith, lt)) ∙ in_data image (6144 + 2 * k) k 0 (omega arith) (omega arith) (omega arith) in
            let high = file.1.1 (6144 + 2 * k + 1) (omega (arith, lt)) ∙ in_data image (6144 + 2 * k + 1) k 1 (omega arith) (omega arith) (omega arith) in
            omega (arith, low, high, within);
      },
    )
