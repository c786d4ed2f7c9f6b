-- The numbers of a command line.
use Rattle.std.specs.Prelude.{ℕ, Bool, ◌&&◌, List, length, nat_lt, nat_le, if◌then◌else◌}
use Rattle.std.specs.Char.{is_digit}
use Rattle.std.specs.List.{list_all}
use Rattle.std.specs.Str.Parse.{digits_value}
use Rattle.std.specs.declared.option.Option.{Option}
use Rattle.std.specs.declared.option.Option.TheVariants.{Some, None}

-- a number is one to twenty decimal digits, of which the first may be 0
abbrev pub is_number : List ℕ → Bool
is_number word =
    nat_lt 0 (length word) && nat_le (length word) 20 && list_all (λ digit. is_digit digit 10) word

-- the number of a word, where it is in this range
abbrev pub number_in : ℕ → ℕ → List ℕ → Option ℕ
number_in least most word =
    if is_number word && nat_le least (digits_value 10 word) && nat_le (digits_value 10 word) most
    then Some (digits_value 10 word) else None
