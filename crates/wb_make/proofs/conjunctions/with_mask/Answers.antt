use Rattle.std.proofs.Common.{refl}
use Rattle.wb_make.proofs.MaskLaws.{masks_merge}
use Rattle.wb_make.proofs.conjunctions.with_mask.Goals as goal

pub returns-in-Some-clause-value : goal.returns-in-Some-clause-value
returns-in-Some-clause-value c inputs is =
    let form = c.in-Some.ensures.value inputs is in
    let inner = c.mask_of-inner.ensures.value inputs is in
    let mask = c.requires.mask inputs is in
    rw (form, inner, mask, masks_merge) refl
