use Rattle.std.proofs.Common.{◌≡◌, ◌^◌, take, min}
use Rattle.std.specs.Str.Parse.{AllDigits, digits_value}
use Rattle.wb_lex.proofs.words.numeral.Given as goal

-- the bytes so far are digits, and their number is known
abbrev pub invariant-loop-byte : goal.invariant-loop-byte
invariant-loop-byte l = record {
  digits : AllDigits l.base (take l.byte-index l.digits);
  value : l.value ≡ min (digits_value l.base (take l.byte-index l.digits)) (2 ^ 32);
}
