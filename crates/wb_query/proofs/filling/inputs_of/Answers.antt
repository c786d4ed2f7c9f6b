use Rattle.std.proofs.Common.{◌≡◌, ◌<◌, ◌≤◌, List, ℕ, length, Some, slice_get, get_or, refl, sym, ap₂, subst, arith, false}
use Rattle.wb_term.specs.Inputs.{Assignment}
use Rattle.wb_blast.specs.declared.places.Place.{Place}
use Rattle.wb_blast.specs.declared.places.Place.TheVariants.{Byte}
use Rattle.wb_blast.specs.Places.{GivesInputs}
use Rattle.wb_query.specs.Oracles.{assigned}
use Rattle.wb_query.proofs.Filled.{filled_none, filled_more, filled_all, place_there}
use Rattle.wb_query.proofs.filling.inputs_of.Goals as goal

pub loop-at-init : goal.loop-at-init
loop-at-init c = filled_none c.args.places.now c.args.values.now _ _ refl refl refl refl

pub fill-requires-clause-range : goal.fill-requires-clause-range
fill-requires-clause-range c = c.requires.places.range c.loop-at.at _ (place_there c.args.places.now c.loop-at.at (Byte 0 0) c.loop-at-test.true)

pub fill-requires-clause-open_yet : goal.fill-requires-clause-open_yet
fill-requires-clause-open_yet c = c.loop-at.invariant.open_yet c.loop-at.at _ (omega arith) (place_there c.args.places.now c.loop-at.at (Byte 0 0) c.loop-at-test.true)

pub loop-at-preserved : goal.loop-at-preserved
loop-at-preserved c =
    let old : Assignment = record { bytes = c.loop-at.bytes; cells = c.loop-at.cells } in
    let new : Assignment = record { bytes = c.fill.new.bytes; cells = c.fill.new.cells } in
    let is = c.fill.ensures in
    filled_more c.args.places.now c.args.values.now old new c.loop-at.at (get_or c.args.places.now c.loop-at.at (Byte 0 0)) (get_or c.args.values.now c.loop-at.at false)
    c.requires.places c.loop-at.invariant (place_there c.args.places.now c.loop-at.at (Byte 0 0) c.loop-at-test.true) refl is.bytes_stay is.cells_stay is.filled is.others

pub returns-clause-gives : goal.returns-clause-gives
returns-clause-gives c =
    let made : Assignment = record { bytes = c.loop-at.bytes; cells = c.loop-at.cells } in
    let same : c.in_ok-inputs.inputs ≡ made = ap₂ (λ (b d : List ℕ). let r : Assignment = record { bytes = b; cells = d } in r) c.in_ok-inputs.ensures.bytes c.in_ok-inputs.ensures.cells in
    subst (λ (i : Assignment). GivesInputs (assigned c.args.values.now) c.args.places.now i) (sym same)
    (filled_all c.args.places.now c.args.values.now made c.loop-at.at c.loop-at-test.false c.loop-at.invariant)
