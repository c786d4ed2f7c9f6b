-- The question of a comparison: how many transfers, which pace, and options.
use Rattle.std.specs.Prelude.{ℕ, ◌==◌, List, [], ◌∷◌, length, replicate, codes, nat_eq, if◌then◌else◌}
use Rattle.std.specs.List.{list_all}
use Rattle.std.specs.Str.{bytes_eq}
use Rattle.std.specs.declared.option.Option.{Option}
use Rattle.std.specs.declared.option.Option.TheVariants.{Some, None}
use Rattle.wb_port.specs.declared.accesses.Letter.{Letter}
use Rattle.wb_port.specs.declared.accesses.Letter.TheVariants as letter
use Rattle.wb_port.specs.declared.accesses.Power.{Power}
use Rattle.wb_port.specs.declared.accesses.Power.TheVariants as power
use Rattle.wb_compare.specs.declared.questions.Question.{Question}
use Rattle.wb_options.specs.Numbers.{number_in}
use Rattle.wb_options.specs.Options.{is_option, values, said_once, shape_key, points_key, conflicts_key, power_key}

-- the letter of a byte
abbrev pub letter_of : ℕ → Option Letter
letter_of byte =
    if nat_eq byte 82 then Some letter.R
    else if nat_eq byte 87 then Some letter.W
    else if nat_eq byte 88 then Some letter.X
    else None

-- a letter before some others, if all of them are letters
abbrev pub before : Option Letter → Option (List Letter) → Option (List Letter)
before (Some first) (Some rest) = Some (first ∷ rest)
before _ _ = None

-- the letters of some bytes, if each has one
abbrev pub letters_of : List ℕ → Option (List Letter)
letters_of [] = Some []
letters_of (byte ∷ bytes) = before (letter_of byte) (letters_of bytes)

-- a shape of so many letters
abbrev pub shape_of : ℕ → List ℕ → Option (List Letter)
shape_of n value = if length value == n then letters_of value else None

abbrev pub power_of : List ℕ → Option Power
power_of value =
    if bytes_eq value (codes "zero") then Some power.Zero
    else if bytes_eq value (codes "any") then Some power.Any
    else None

-- the question of what was given, if all of it says something
abbrev pub asked : ℕ → ℕ → Option (List Letter) → Option ℕ → Option ℕ → Option Power → Option Question
asked n k (Some shape) (Some points) (Some conflicts) (Some power) =
    Some
    (record {
      n = n;
      k = k;
      shape = shape;
      power = power;
      budget = record { points = points; conflicts = conflicts };
    })
asked n k _ _ _ _ = None

-- the question of some options: any transfers, 4,096 points, 100,000 conflicts and a RAM of zeros where these aren't
-- given
abbrev pub asked_by : List (List ℕ) → Option ℕ → Option ℕ → Option Question
asked_by options (Some n) (Some k) =
    asked n k
    (said_once (shape_of n) (replicate n letter.X) (values shape_key options))
    (said_once (number_in 1 8192) 4096 (values points_key options))
    (said_once (number_in 0 18446744073709551615) 100000 (values conflicts_key options))
    (said_once power_of power.Zero (values power_key options))
asked_by options _ _ = None

-- at most 16 transfers, a pace from 1 to 8,191, and options alone
abbrev pub question_of : List ℕ → List ℕ → List (List ℕ) → Option Question
question_of n k options =
    if list_all is_option options then asked_by options (number_in 0 16 n) (number_in 1 8191 k) else None
