-- The inputs that an assignment gives.
use Rattle.std.proofs.Common.{◌≡◌, ◌≢◌, ◌==◌, ℕ, zero, suc, ◌+◌, ◌^◌, ◌<◌, Bool, true, false, if◌then◌else◌, List, [], ◌∷◌, length, Some, slice_get, slice_index, refl, sym, ◌∙◌, ap, subst, arith}
use Rattle.std.proofs.lemmas.Bool.{ne_eqb}
use Rattle.std.specs.Int.{bit_at}
use Rattle.wb_gate.specs.Circuit.{Assignment}
use Rattle.wb_term.specs.Inputs.{Assignment as Inputs, IsAssignment}
use Rattle.wb_term.specs.Numbers.{bit}
use Rattle.wb_equal.specs.declared.entries.Entry.{Entry}
use Rattle.wb_equal.specs.declared.entries.Entry.TheVariants.{T, F}
use Rattle.wb_blast.specs.declared.places.Place.{Place}
use Rattle.wb_blast.specs.declared.places.Place.TheVariants.{Byte, Cell}
use Rattle.wb_equal.specs.Entries.{entry_value}
use Rattle.wb_blast.specs.Meeting.{EachOnce}
use Rattle.wb_blast.specs.Places.{place_value, GivesInputs}
use Rattle.wb_blast.specs.Words.{number, entry_at}
use Rattle.wb_blast.proofs.Appended.{get_none}
use Rattle.wb_blast.proofs.Bits.{number_bit}
use Rattle.wb_blast.proofs.Owners.{IsInRange, code, same_code}
use Rattle.wb_blast.proofs.Sums.{number_lt}

-- the value of the variable whose place has this number
abbrev given : Assignment → ℕ → List Place → ℕ → Bool
given v first [] number = false
given v first (p ∷ ps) number = if code p == number then v first else given v (suc first) ps number

self_eqb : (n : ℕ) → (n == n) ≡ true
self_eqb n = grind arith

given_at : (v : Assignment) (first : ℕ) (ps : List Place) (x : ℕ) (p : Place) → ((k : ℕ) (q : Place) → slice_get ps k ≡ Some q → IsInRange q) → EachOnce ps →
    slice_get ps x ≡ Some p → given v first ps (code p) ≡ v (first + x)
given_at v first [] x p range once e = absurd (get_none x p e)
given_at v first (q ∷ ps) zero p range once e =
    (let same : q ≡ p = cc in ap (λ (r : Place). if code r == code p then v first else given v (suc first) ps (code p)) same)
    ∙ ap (λ b. if b then v first else given v (suc first) ps (code p)) (self_eqb (code p))
    ∙ ap v (omega arith)
given_at v first (q ∷ ps) (suc x) p range once e =
    let other : code q ≢ code p = λ same.
    let eq : q ≡ p = same_code q p (range 0 q refl) (range (suc x) p e) same in
    let zero_is : 0 ≡ suc x = once 0 (suc x) p (ap Some eq) e in absurd (omega (arith, zero_is)) in
    ap (λ b. if b then v first else given v (suc first) ps (code p)) (ne_eqb (code q) (code p) other)
    ∙ given_at v (suc first) ps x p (λ k r f. range (suc k) r f) (λ j k r f g. let s = once (suc j) (suc k) r f g in omega (arith, s)) e
    ∙ ap v (omega arith)

-- a word of known bits
abbrev known : (ℕ → Bool) → ℕ → List Entry
known f zero = []
known f (suc n) = (if f 0 then T else F) ∷ known (λ k. f (suc k)) n

nowhere : Assignment
nowhere x = false

known_length : (f : ℕ → Bool) (n : ℕ) → length (known f n) ≡ n
known_length f zero = refl
known_length f (suc n) = let rest = known_length (λ k. f (suc k)) n in omega (arith, rest)

known_value : (v : Assignment) (b : Bool) → entry_value v (if b then T else F) ≡ b
known_value v true = refl
known_value v false = refl

known_at : (v : Assignment) (f : ℕ → Bool) (n k : ℕ) → k < n → entry_value v (entry_at (known f n) k) ≡ f k
known_at v f zero k h = absurd (omega (arith, h))
known_at v f (suc n) zero h = known_value v (f 0)
known_at v f (suc n) (suc k) h = known_at v (λ k. f (suc k)) n k (omega (arith, h))

abbrev word_of : (ℕ → Bool) → ℕ → ℕ
word_of f n = number nowhere (known f n)

word_small : (f : ℕ → Bool) (n : ℕ) → word_of f n < 2 ^ n
word_small f n = subst (λ m. word_of f n < 2 ^ m) (known_length f n) (number_lt nowhere (known f n))

bit_is : (b : Bool) → (bit b == 1) ≡ b
bit_is true = refl
bit_is false = refl

word_bit : (f : ℕ → Bool) (n k : ℕ) → k < n → (bit_at (word_of f n) k == 1) ≡ f k
word_bit f n k h =
    let long = known_length f n in
    ap (λ b. b == 1) (number_bit nowhere (known f n) k (omega (arith, h, long)) ∙ ap bit (known_at nowhere f n k h)) ∙ bit_is (f k)

-- a list by its places
abbrev table : (ℕ → ℕ) → ℕ → List ℕ
table f zero = []
table f (suc n) = f 0 ∷ table (λ k. f (suc k)) n

table_length : (f : ℕ → ℕ) (n : ℕ) → length (table f n) ≡ n
table_length f zero = refl
table_length f (suc n) = let rest = table_length (λ k. f (suc k)) n in omega (arith, rest)

table_at : (f : ℕ → ℕ) (n k : ℕ) → k < n → slice_index (table f n) k ≡ f k
table_at f zero k h = absurd (omega (arith, h))
table_at f (suc n) zero h = refl
table_at f (suc n) (suc k) h = table_at (λ k. f (suc k)) n k (omega (arith, h))

table_small : (f : ℕ → ℕ) (n bound : ℕ) → 0 < bound → ((k : ℕ) → f k < bound) → (k : ℕ) → slice_index (table f n) k < bound
table_small f zero bound some small k = omega (arith, some)
table_small f (suc n) bound some small zero = small 0
table_small f (suc n) bound some small (suc k) = table_small (λ k. f (suc k)) n bound some (λ k. small (suc k)) k

byte_given : Assignment → List Place → ℕ → ℕ
byte_given v ps place = word_of (λ b. given v 0 ps (code (Byte place b))) 8

cell_given : Assignment → List Place → ℕ → ℕ
cell_given v ps place = word_of (λ b. given v 0 ps (code (Cell place b))) 16

pub inputs_given : Assignment → List Place → Inputs
inputs_given v ps = record { bytes = table (byte_given v ps) 16; cells = table (cell_given v ps) 256 }

pub are_inputs : (v : Assignment) (ps : List Place) → IsAssignment (inputs_given v ps)
unfolding inputs_given byte_given cell_given
are_inputs v ps = record {
  bytes_len = table_length (byte_given v ps) 16;
  cells_len = table_length (cell_given v ps) 256;
  bytes = table_small (byte_given v ps) 16 256 (omega arith) (λ place. word_small (λ b. given v 0 ps (code (Byte place b))) 8);
  cells = table_small (cell_given v ps) 256 65536 (omega arith) (λ place. word_small (λ b. given v 0 ps (code (Cell place b))) 16);
}

pub gives_inputs : (v : Assignment) (ps : List Place) → ((k : ℕ) (q : Place) → slice_get ps k ≡ Some q → IsInRange q) → EachOnce ps → GivesInputs v ps (inputs_given v ps)
unfolding inputs_given byte_given cell_given
gives_inputs v ps range once = record { given = λ x p e. by_place v ps x p (range x p e) (given_at v 0 ps x p range once e) } where
  by_place : (v : Assignment) (ps : List Place) (x : ℕ) (p : Place) → IsInRange p → given v 0 ps (code p) ≡ v (0 + x) → v x ≡ place_value (inputs_given v ps) p
  by_place v ps x (Byte place b) range e =
      sym (ap (λ n. bit_at n b == 1) (table_at (byte_given v ps) 16 place range.0) ∙ word_bit (λ k. given v 0 ps (code (Byte place k))) 8 b range.1 ∙ e ∙ ap v (omega arith))
  by_place v ps x (Cell place b) range e =
      sym (ap (λ n. bit_at n b == 1) (table_at (cell_given v ps) 256 place range.0) ∙ word_bit (λ k. given v 0 ps (code (Cell place k))) 16 b range.1 ∙ e ∙ ap v (omega arith))
