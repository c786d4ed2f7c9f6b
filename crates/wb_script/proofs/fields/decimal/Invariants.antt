use Rattle.std.proofs.Common.{◌≡◌, take}
use Rattle.std.specs.Str.Parse.{AllDigits, digits_value}
use Rattle.wb_script.proofs.fields.decimal.Given as goal

-- the bytes so far are digits, and their number is known
abbrev pub invariant-loop-byte : goal.invariant-loop-byte
invariant-loop-byte l = record {
  digits : AllDigits 10 (take l.byte-index l.digits);
  value : l.value ≡ digits_value 10 (take l.byte-index l.digits);
}
