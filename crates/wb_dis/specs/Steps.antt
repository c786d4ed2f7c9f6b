-- How a line grows clause by clause. No public clause cites this.
use Rattle.std.specs.Prelude.{ℕ, ◌==◌, if◌then◌else◌, List, ◌++◌, length, codes}
use Rattle.std.specs.declared.option.Option.{Option}
use Rattle.std.specs.declared.option.Option.TheVariants.{Some, None}

-- what separates a clause from the line before it, which is a mnemonic of two letters or ends with a clause
abbrev pub lead : List ℕ → List ℕ
lead line = if length line == 2 then codes " " else codes " | "

-- a line and one more clause, if any
unfoldable pub and_clause : List ℕ → Option (List ℕ) → List ℕ
and_clause line None = line
and_clause line (Some clause) = line ++ lead line ++ clause
