use Rattle.std.proofs.Common.{refl, sym, subst}
use Rattle.wb_gate.specs.Circuit.{Circuit}
use Rattle.wb_blast.specs.declared.rows.Rows.{Rows}
use Rattle.wb_blast.specs.Blasting.{AreBlasted}
use Rattle.wb_blast.proofs.Finals.{begun, bits_done, all_done}
use Rattle.wb_blast.proofs.blasting.fill.Goals as goal

pub build-requires-clause-begun : goal.build-requires-clause-begun
build-requires-clause-begun c =
    let ready : Rows = record { places = c.args.met.places; slots = c.args.met.slots; words = c.new.result; bits = c.new-2.result } in
    begun c.args.graph.now c.args.bits.now c.args.met ready c.args.formula.limit c.args.formula c.requires.met refl c.new.ensures.items c.new-2.ensures.items c.requires.empty

pub entries_of-requires : goal.entries_of-requires
entries_of-requires c =
    let g = c.args.graph.now in
    let ready : Rows = record { places = c.args.met.places; slots = c.args.met.slots; words = c.new.result; bits = c.new-2.result } in
    bits_done g c.args.bits.now c.args.met ready c.build.new.rows c.args.formula.limit c.build.new.formula refl c.requires.met c.in_ok-build.ensures c.requires.there

pub returns : goal.returns
returns c =
    let g = c.args.graph.now in
    let ready : Rows = record { places = c.args.met.places; slots = c.args.met.slots; words = c.new.result; bits = c.new-2.result } in
    subst (λ (x : Circuit). AreBlasted g c.args.bits.now c.args.formula.limit x c.build.new.rows.places.items c.in_ok-entries.entries.items) (sym c.into_formula.ensures)
    (all_done g c.args.bits.now c.args.met ready c.build.new.rows c.args.formula.limit c.build.new.formula c.in_ok-entries.entries.items refl refl c.requires.met c.requires.within
    c.in_ok-build.ensures c.requires.there c.in_ok-entries.ensures)
