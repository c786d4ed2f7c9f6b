-- The laws of bits that the rules of bits rest on.
use Rattle.std.proofs.Common.{◌≡◌, not, ◌&&◌, ◌||◌, Bool, true, false, refl}
use Rattle.std.specs.Bool.{beq}

pub and_of_part : (c d : Bool) → (c && d) ≡ c → (d && c) ≡ c
and_of_part true true h = refl
and_of_part true false h = cc
and_of_part false true h = refl
and_of_part false false h = refl

pub or_of_part : (c d : Bool) → (c && d) ≡ c → (c || d) ≡ d
or_of_part true true h = refl
or_of_part true false h = cc
or_of_part false d h = refl

pub or_of_part_r : (c d : Bool) → (c && d) ≡ c → (d || c) ≡ d
or_of_part_r true true h = refl
or_of_part_r true false h = cc
or_of_part_r false true h = refl
or_of_part_r false false h = refl

pub xor_twice : (c d : Bool) → not (beq c (not (beq c d))) ≡ d
xor_twice true true = refl
xor_twice true false = refl
xor_twice false true = refl
xor_twice false false = refl

pub ruleset truth = (and_of_part, or_of_part, or_of_part_r, xor_twice)
