use Rattle.std.proofs.Common.{sym}
use Rattle.wb_syntax.specs.View.{tree_of}
use Rattle.wb_syntax.proofs.Readings.{alone_is, alone_refused}
use Rattle.wb_syntax.proofs.expressions.alone.Goals as goal

pub returns-in-Some-node_of-clause-reading : goal.returns-in-Some-node_of-clause-reading
returns-in-Some-node_of-clause-reading c =
    alone_is c.args.text.now c.args.tokens.now c.args.depth c.args.start c.in-Some.token (tree_of c.in-Some-node_of.node) (sym c.in-Some.ensures.value) c.in-Some-node_of.ensures.some

pub returns-in-None-clause-reading : goal.returns-in-None-clause-reading
returns-in-None-clause-reading c =
    alone_refused c.args.text.now c.args.tokens.now c.args.depth c.args.start c.in-Some.token (sym c.in-Some.ensures.value) c.requires c.in-None.ensures.none
