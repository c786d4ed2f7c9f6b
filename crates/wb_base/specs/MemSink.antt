-- A sink in memory, with a room of its own.
use Rattle.std.specs.Prelude.{ℕ, ◌-◌, ◌++◌, List, length, take, min, Bool, ◌||◌, ◌&&◌, ◌==◌, nat_lt, Option, None, Some, if◌then◌else◌}
use Rattle.wb_base.specs.Calls.{CallCount, next_fails}

-- the bytes taken; how many the sink has room for in all; the most bytes that one put takes; the calls
pub record SinkState : Type 0 where
  pub taken : List ℕ
  pub room : ℕ
  pub most : ℕ
  pub calls : CallCount

-- how many bytes of a piece fit
abbrev pub fitting : SinkState → List ℕ → ℕ
fitting s piece = min (min (length piece) s.most) (s.room - length s.taken)

-- the next put is a fault: it is to fail, or no byte of a piece that has some fits
abbrev pub put_fails : SinkState → List ℕ → Bool
put_fails s piece = next_fails s.calls || (fitting s piece == 0 && nat_lt 0 (length piece))

-- how many bytes of the piece the next put takes; `None` where it is `Failed`
abbrev pub amount_taken : SinkState → List ℕ → Option ℕ
amount_taken s piece = if put_fails s piece then None else Some (fitting s piece)

-- the bytes taken after that put
abbrev pub taken_after : SinkState → List ℕ → List ℕ
taken_after s piece = if put_fails s piece then s.taken else s.taken ++ take (fitting s piece) piece
