use Rattle.std.proofs.Common.{subst}
use Rattle.wb_symstep.specs.declared.stepped.Stepped.{Stepped}
use Rattle.wb_symstep.specs.Stepped.{IsStepped, SteppedHasOnly}
use Rattle.wb_explore.specs.Plans.{is_chosen}
use Rattle.wb_explore.specs.Explored.{longer_plan}
use Rattle.wb_explore.specs.Transfers.{GivesTo}
use Rattle.wb_explore.proofs.Giving.{one_comes}
use Rattle.wb_explore.proofs.transfers.ways_given.Goals as goal

pub one_given-requires : goal.one_given-requires
one_given-requires c =
    let p = c.args.plan.now in
    record {
      way = one_comes c.dialogues_grow_at_the_end.ensures c.normalised_inputs_keep_the_dialogue.ensures p c.args.kind c.args.request.now c.requires.short c.args.graph.now c.in-One.state c.requires.request
          (subst (λ (r : Stepped). IsStepped c.args.graph.now r) c.in-One.is c.requires.stepped)
          (subst (λ (r : Stepped). SteppedHasOnly c.args.graph.now (is_chosen (longer_plan p c.args.kind).kinds p.power) r) c.in-One.is c.requires.inputs)
          (subst (λ (r : Stepped). GivesTo c.args.graph.now p c.args.kind c.args.request.now.state r) c.in-One.is c.requires.stands);
    }

pub fork_given-requires-clause-stands : goal.fork_given-requires-clause-stands
fork_given-requires-clause-stands c = subst (λ (r : Stepped). GivesTo c.args.graph.now c.args.plan.now c.args.kind c.args.request.now.state r) c.in-Fork.is c.requires.stands
