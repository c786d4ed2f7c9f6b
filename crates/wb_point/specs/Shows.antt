-- What a symbolic state shows by its concrete parts.
use Rattle.std.specs.Prelude.{◌≡◌}
use Rattle.wb_port.specs.declared.points.Shown.{Shown}
use Rattle.wb_symstep.specs.declared.state.SymState.{SymState}

-- the concrete parts of a state
abbrev pub shows : SymState → Shown
shows s = record { pc = s.pc; sp = s.sp; stack = s.stack; rqm = s.rqm; drs = s.drs }

-- the concrete parts of both are equal
abbrev pub SamePlace : SymState → SymState → Type 0
SamePlace s t = shows s ≡ shows t
