use Rattle.std.proofs.Common.{◌≡◌, ◌++◌, length, take, drop}
use Rattle.std.specs.Option.{option_map}
use Rattle.wb_options.specs.Questions.{letters_of}
use Rattle.wb_options.proofs.values.letters_of.Given as goal

abbrev pub invariant-loop-place : goal.invariant-loop-place
invariant-loop-place l = record {
  len : length l.letters ≡ 16;
  letters : letters_of l.bytes ≡ option_map (λ rest. take l.place l.letters ++ rest) (letters_of (drop l.place l.bytes));
}
