use Rattle.std.proofs.lemmas.Option.{get_or_from_slice_get, slice_get_within}
use Rattle.std.specs.Prelude.{Contains}
use Rattle.wb_explored.proofs.tests.requests.check_state_at.Goals as goal

pub check_state-requires : goal.check_state-requires
check_state-requires g c =
    let l = c.args.layer.now in
    let q = c.request_at.result.now in
    let listed : Contains l.requests q = (c.args.place, slice_get_within l.requests c.args.place q c.request_at.ensures, get_or_from_slice_get l.requests c.args.place q q c.request_at.ensures) in
    record { state = (c.requires.each q listed).state }
