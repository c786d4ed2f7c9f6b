use Rattle.wb_compare.proofs.Whole.{first_overruns, second_overruns, none_overruns}
use Rattle.wb_compare.proofs.comparing.equal.Goals as goal

pub returns-in-Some-default : goal.returns-in-Some-default
returns-in-Some-default c = first_overruns c.run_laws.ensures c.args.a.now c.args.b.now c.args.question.now c.requires.question c.args.work c.requires.whole c.in-Some-default.dialogue c.points-points.ensures.purse c.in-Some-default.is-0

pub returns-in-None-Some : goal.returns-in-None-Some
returns-in-None-Some c = second_overruns c.run_laws.ensures c.args.a.now c.args.b.now c.args.question.now c.requires.question c.args.work c.requires.whole c.in-None-Some.dialogue c.points-points.ensures.purse c.in-None-Some.is-0 c.in-None-Some.is-1

pub returns : goal.returns
returns c = none_overruns c.run_laws.ensures c.args.a.now c.args.b.now c.args.question.now c.requires.question c.args.work c.requires.whole c.points-points.ensures.purse c.in-None-None.is-0 c.in-None-None.is-1
