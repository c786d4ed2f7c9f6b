-- The exit statuses.
use Rattle.std.specs.Prelude.{ℕ}
use Rattle.wb_cli.specs.declared.statuses.Ending.{Ending}
use Rattle.wb_cli.specs.declared.statuses.Ending.TheVariants as ending
use Rattle.wb_cli.specs.declared.statuses.Status.{Status}
use Rattle.wb_cli.specs.declared.statuses.Status.TheVariants as status

-- the exit status of the process
abbrev pub status_number : Status → ℕ
status_number status.Fine = 0
status_number status.Shown = 1
status_number status.BadWords = 2
status_number status.Refused = 3
status_number status.Breach = 4
status_number (status.Unknown spent) = 5
status_number status.ReadFault = 6
status_number status.WriteFault = 7
status_number status.NoMemory = 8

-- the status of a call whose report was written whole
abbrev pub ending_status : Ending → Status
ending_status ending.Fine = status.Fine
ending_status ending.Shown = status.Shown
ending_status ending.BadWords = status.BadWords
ending_status ending.Refused = status.Refused
ending_status ending.Breach = status.Breach
ending_status (ending.Unknown spent) = status.Unknown spent
ending_status ending.ReadFault = status.ReadFault
