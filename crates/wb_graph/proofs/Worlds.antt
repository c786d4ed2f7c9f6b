-- For all inputs there are values of the variables that stand for them.
use Rattle.std.proofs.Common.{◌≡◌, ℕ, ◌-◌, ◌/◌, ◌%◌, ◌<◌, ◌≤◌, ◌==◌, Bool, if◌then◌else◌, nat_lt, slice_index, arith, ap, ap₂, ◌∙◌}
use Rattle.std.proofs.lemmas.Bool.{lt-ltb, le-ltb}
use Rattle.std.specs.Int.{bit_at}
use Rattle.wb_term.specs.Inputs.{Assignment}
use Rattle.wb_term.specs.Terms.{Terms}
use Rattle.wb_term.specs.Values.{value}
use Rattle.wb_graph.specs.Worlds.{IsWorld, byte_by_byte, side_by_side, own_variable}

-- the bit of a byte
abbrev byte_bit : Assignment → ℕ → ℕ → Bool
byte_bit inputs place b = bit_at (slice_index inputs.bytes place) b == 1

-- the bit of a node's value
abbrev node_bit : Assignment → Terms → ℕ → ℕ → Bool
node_bit inputs g k b = bit_at (value inputs g k) b == 1

-- what each variable stands for
abbrev world : Assignment → Terms → ℕ → Bool
world inputs g x =
    if nat_lt x 128 then byte_bit inputs (x / 8) (7 - x % 8)
    else if nat_lt x 256 then byte_bit inputs ((x - 128) % 16) (7 - (x - 128) / 16)
    else node_bit inputs g ((x - 256) / 16) ((x - 256) % 16)

-- a choice between three by the place of a number
first_of_three : (x : ℕ) (a b c : Bool) → x < 128 → (if nat_lt x 128 then a else if nat_lt x 256 then b else c) ≡ a
first_of_three x a b c h = ap (λ (t : Bool). if t then a else if nat_lt x 256 then b else c) (lt-ltb x 128 h)

second_of_three : (x : ℕ) (a b c : Bool) → 128 ≤ x → x < 256 → (if nat_lt x 128 then a else if nat_lt x 256 then b else c) ≡ b
second_of_three x a b c h k =
    ap (λ (t : Bool). if t then a else if nat_lt x 256 then b else c) (le-ltb x 128 h)
    ∙ ap (λ (t : Bool). if t then b else c) (lt-ltb x 256 k)

third_of_three : (x : ℕ) (a b c : Bool) → 256 ≤ x → (if nat_lt x 128 then a else if nat_lt x 256 then b else c) ≡ c
third_of_three x a b c h =
    ap (λ (t : Bool). if t then a else if nat_lt x 256 then b else c) (le-ltb x 128 (omega (arith, h)))
    ∙ ap (λ (t : Bool). if t then b else c) (le-ltb x 256 h)

is_world : (inputs : Assignment) (g : Terms) → IsWorld inputs g (world inputs g)
is_world inputs g = record {
  byte_by_byte = λ place b in_place in_bit.
      let x = byte_by_byte place b in
      let of_place : x / 8 ≡ place = omega (arith, in_place, in_bit) in
      let of_bit : 7 - x % 8 ≡ b = omega (arith, in_place, in_bit) in
      first_of_three x _ _ _ (omega (arith, in_place, in_bit)) ∙ ap₂ (byte_bit inputs) of_place of_bit;
  side_by_side = λ place b in_place in_bit.
      let x = side_by_side place b in
      let of_place : (x - 128) % 16 ≡ place = omega (arith, in_place, in_bit) in
      let of_bit : 7 - (x - 128) / 16 ≡ b = omega (arith, in_place, in_bit) in
      second_of_three x _ _ _ (omega (arith, in_place, in_bit)) (omega (arith, in_place, in_bit)) ∙ ap₂ (byte_bit inputs) of_place of_bit;
  own = λ k b in_graph in_bit.
      let x = own_variable k b in
      let of_node : (x - 256) / 16 ≡ k = omega (arith, in_bit) in
      let of_bit : (x - 256) % 16 ≡ b = omega (arith, in_bit) in
      third_of_three x _ _ _ (omega (arith, in_bit)) ∙ ap₂ (node_bit inputs g) of_node of_bit;
}

pub world_exists : (inputs : Assignment) (g : Terms) → (w : ℕ → Bool) × IsWorld inputs g w
world_exists inputs g = (world inputs g, is_world inputs g)
