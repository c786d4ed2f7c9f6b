-- What the counts of faults tell: the shelf's rises at `ReadFault` alone, and the sink's at `WriteFault` alone.
use Rattle.std.specs.Prelude.{◌≡◌}
use Rattle.wb_cli.specs.declared.statuses.Status.{Status}
use Rattle.wb_cli.specs.declared.statuses.Status.TheVariants as status
use Rattle.wb_cli.specs.Answers.{Answers, Met, Put}

abbrev pub ReadsWentWell : Met → Type 0
ReadsWentWell met = met.faults_after ≡ met.faults_before

abbrev pub PutsWentWell : Put → Type 0
PutsWentWell put = put.refused_after ≡ put.refused_before

-- the counts that stayed; a report that wasn't written whole, or had no memory, may be that of a failed read
abbrev pub CountsStay : Met → Put → Status → Type 0
CountsStay met put status.ReadFault = PutsWentWell put
CountsStay met put status.WriteFault = Unit {0}
CountsStay met put status.NoMemory = PutsWentWell put
CountsStay met put _ = ReadsWentWell met × PutsWentWell put

abbrev pub CountsTellFaults : Type 0
CountsTellFaults = (met : Met) (put : Put) (answer : Status) → Answers met put answer → CountsStay met put answer
