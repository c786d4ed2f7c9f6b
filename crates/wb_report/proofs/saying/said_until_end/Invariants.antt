use Rattle.std.proofs.Common.{◌≡◌, false, take}
use Rattle.wb_port.specs.declared.runs.Run.TheVariants.{Answered}
use Rattle.wb_port.specs.Talk.{dialogue}
use Rattle.wb_port.specs.Run.{EndsAs}
use Rattle.wb_report.proofs.saying.said_until_end.Given as goal

abbrev pub invariant-loop-place : goal.invariant-loop-place
invariant-loop-place l = record {
  front : l.front ≡ dialogue l.talk.start (take l.place l.talk.accesses);
  answered : EndsAs l.image l.pace false l.front (Answered l.said);
}
