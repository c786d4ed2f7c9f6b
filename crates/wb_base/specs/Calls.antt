-- Calls that are counted, some of which are to fail.
use Rattle.std.specs.Prelude.{ℕ, ◌+◌, ◌-◌, ◌^◌, List, [], Bool, ◌||◌, ◌==◌, nat_le, if◌then◌else◌}
use Rattle.std.specs.List.{list_any}
use Rattle.wb_base.specs.Faults.{raised}

-- the numbers of the calls that are to fail, counted from 1; how many calls were made; how many were faults
pub record CallCount : Type 0 where
  pub failing : List ℕ
  pub made : ℕ
  pub faults : ℕ

abbrev pub no_calls : CallCount
no_calls = record { failing = []; made = 0; faults = 0 }

-- the next call is to fail: its number is among those, or the calls can be counted no further
abbrev pub next_fails : CallCount → Bool
next_fails c = nat_le (2 ^ 64 - 1) c.made || list_any (λ n. n == c.made + 1) c.failing

-- one more call, which was a fault or not
abbrev pub after_call : Bool → CallCount → CallCount
after_call fault c = record c { made = raised c.made; faults = (if fault then raised c.faults else c.faults) }
