use Rattle.wb_blast.proofs.Builds.{can_build, building_more}
use Rattle.wb_blast.proofs.building.build.Goals as goal

pub build_node-requires-clause-can : goal.build_node-requires-clause-can
build_node-requires-clause-can c = can_build c.args.graph.now c.args.rows.now c.loop-number.rows c.args.formula.now.limit c.loop-number.formula c.loop-number.number
    c.len-number-end.ensures.graph c.requires.ready c.loop-number.invariant

pub loop-number-preserved : goal.loop-number-preserved
loop-number-preserved c = building_more c.args.graph.now c.args.rows.now c.loop-number.rows c.build_node.new.rows c.args.formula.now.limit c.loop-number.formula
    c.build_node.new.formula c.loop-number.number c.requires.ready c.loop-number.invariant (c.in_ok-build_node.ensures)
