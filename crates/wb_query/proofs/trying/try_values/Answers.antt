use Rattle.std.proofs.Common.{List, sym, subst}
use Rattle.wb_blast.specs.declared.places.Place.{Place}
use Rattle.wb_query.specs.Filling.{ArePlacesInRange}
use Rattle.wb_query.proofs.Filled.{are_in_range}
use Rattle.wb_query.proofs.trying.try_values.Goals as goal

pub inputs_of-requires-clause-places : goal.inputs_of-requires-clause-places
inputs_of-requires-clause-places c =
    subst (λ (ps : List Place). ArePlacesInRange ps) (sym c.as_slice.ensures.value)
    (are_in_range c.args.graph.now _ c.args.blasted.now.places.items c.len-nodes.ensures.graph c.requires.wanted)
