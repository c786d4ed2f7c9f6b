-- what the words of the code stand for
use Rattle.wb_cli.specs.declared.files.FileWord.{FileWord}
use Rattle.wb_cli.specs.declared.plans.Plan as code
use Rattle.wb_cli.specs.declared.plans.Plan.TheVariants as plan
use Rattle.wb_cli.specs.Plan.{NamedFile, Plan, run_on, assembly_of, listing_of, trace_on, comparison_of, demo_of}

abbrev pub named : FileWord → NamedFile
named word = record { name = word.name.now; kind = word.kind }

abbrev pub plan_in : code.Plan → Plan
plan_in (plan.Run image script) = run_on image.now script.now
plan_in (plan.Assemble source) = assembly_of source.now
plan_in (plan.Disassemble image) = listing_of image.now
plan_in (plan.Trace a b moves depth) = trace_on a.now b.now moves.now depth.value
plan_in (plan.Compare a b comparison) = comparison_of a.now b.now comparison.question
plan_in (plan.Demo number) = demo_of number
