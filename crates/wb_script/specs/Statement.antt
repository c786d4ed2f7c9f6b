-- What one line of a script says.
use Rattle.std.specs.Prelude.{ℕ, ◌+◌, ◌*◌, Bool, ◌&&◌, ◌||◌, ◌==◌, nat_lt, nat_le, if◌then◌else◌, List, [], ◌∷◌, length, codes}
use Rattle.std.specs.Option.{option_map}
use Rattle.std.specs.List.{slice_split, before_first, filter, list_all}
use Rattle.std.specs.Str.{bytes_eq}
use Rattle.std.specs.Str.Parse.{digits_value}
use Rattle.std.specs.Char.{is_digit, digit_value}
use Rattle.std.specs.declared.option.Option.{Option}
use Rattle.std.specs.declared.option.Option.TheVariants.{Some, None}
use Rattle.wb_script.specs.declared.items.Item.TheVariants.{Wait, Step, Status, Read, Write}
use Rattle.wb_script.specs.declared.table.Statement.{Statement}
use Rattle.wb_script.specs.declared.table.Statement.TheVariants.{Row, Repeat, End}

-- a space or a tab
abbrev pub is_blank : ℕ → Bool
is_blank byte = byte == 32 || byte == 9

-- a line up to its first semicolon, where a comment starts
abbrev pub before_comment : List ℕ → List ℕ
before_comment line = before_first (λ byte. byte == 59) line

-- the runs of bytes that blanks separate
abbrev pub fields : List ℕ → List (List ℕ)
fields line = filter (λ field. nat_lt 0 (length field)) (slice_split is_blank line)

-- the byte that exactly two hexadecimal digits write, of either case
abbrev pub byte_of : List ℕ → Option ℕ
byte_of (high ∷ low ∷ []) = if is_digit high 16 && is_digit low 16 then Some (digit_value high * 16 + digit_value low) else None
byte_of _ = None

-- the number that one to five decimal digits write, where it is at most 65535
abbrev pub number_of : List ℕ → Option ℕ
number_of digits =
    if (nat_lt 0 (length digits) && nat_le (length digits) 5) && (list_all (λ digit. is_digit digit 10) digits && nat_le (digits_value 10 digits) 65535)
    then Some (digits_value 10 digits) else None

-- how often a repetition runs: at least once
abbrev pub repetition : Option ℕ → Option Statement
repetition None = None
repetition (Some times) = if nat_lt 0 times then Some (Repeat times) else None

-- a line of one word
unfoldable pub word_alone : List ℕ → Option Statement
word_alone word =
    if bytes_eq word (codes "R") then Some (Row (Some Read))
    else if bytes_eq word (codes "S") then Some (Row (Some Status))
    else if bytes_eq word (codes "END") then Some End
    else None

-- a line of a word and a value
unfoldable pub word_and_value : List ℕ → List ℕ → Option Statement
word_and_value word value =
    if bytes_eq word (codes "W") then option_map (λ byte. Row (Some (Write byte))) (byte_of value)
    else if bytes_eq word (codes "WAIT") then option_map (λ most. Row (Some (Wait most))) (number_of value)
    else if bytes_eq word (codes "STEP") then option_map (λ count. Row (Some (Step count))) (number_of value)
    else if bytes_eq word (codes "REPEAT") then repetition (number_of value)
    else None

-- the table of the lines, by their fields; None: no such line is in it
abbrev pub by_fields : List (List ℕ) → Option Statement
by_fields [] = Some (Row None)
by_fields (word ∷ []) = word_alone word
by_fields (word ∷ value ∷ []) = word_and_value word value
by_fields (_ ∷ _ ∷ _ ∷ _) = None

-- what a line says, given without its line feed; None: it is in no script
unfoldable pub statement_of : List ℕ → Option Statement
statement_of line = by_fields (fields (before_comment line))
