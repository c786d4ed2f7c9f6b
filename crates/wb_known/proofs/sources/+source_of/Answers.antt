use Rattle.wb_known.proofs.sources.+source_of.Goals as goal

pub returns-in-Not-clause-there : goal.returns-in-Not-clause-there
returns-in-Not-clause-there t c = c.turned.ensures.there c.args.graph.now c.source_of-in-Not.ensures.there

pub returns-in-And-clause-inputs : goal.returns-in-And-clause-inputs
returns-in-And-clause-inputs t c allowed only =
    let each = c.in-And.ensures.inputs allowed only.0 in
    c.both.ensures.inputs c.args.graph.now allowed only (c.source_of-a.ensures.inputs allowed (each.0, tt)) (c.source_of-in-And.ensures.inputs allowed each.1)

pub returns-in-Or-clause-inputs : goal.returns-in-Or-clause-inputs
returns-in-Or-clause-inputs t c allowed only =
    let each = c.in-Or.ensures.inputs allowed only.0 in
    c.either.ensures.inputs c.args.graph.now allowed only (c.source_of-a-in-Or.ensures.inputs allowed (each.0, tt)) (c.source_of-in-Or.ensures.inputs allowed each.1)

pub returns-in-Xor-clause-inputs : goal.returns-in-Xor-clause-inputs
returns-in-Xor-clause-inputs t c allowed only =
    let each = c.in-Xor.ensures.inputs allowed only.0 in
    c.odd.ensures.inputs c.args.graph.now allowed only (c.source_of-a-in-Xor.ensures.inputs allowed (each.0, tt)) (c.source_of-in-Xor.ensures.inputs allowed each.1)

pub returns-in-Ite-clause-inputs : goal.returns-in-Ite-clause-inputs
returns-in-Ite-clause-inputs t c allowed only =
    let each = c.in-Ite.ensures.inputs allowed only.0 in
    c.choice.ensures.inputs c.args.graph.now allowed only each.0 (c.source_of-a-in-Ite.ensures.inputs allowed (each.1.0, tt)) (c.source_of-in-Ite.ensures.inputs allowed each.1.1)
