use Rattle.wb_known.proofs.MaskLaws.{and_keeps, or_keeps, xor_keeps, choice_keeps, shl_keeps, shr_keeps}
use Rattle.wb_known.proofs.masks.+bits_of.Goals as goal

pub returns-in-And : goal.returns-in-And
returns-in-And t c inputs is =
    let e = c.in-And.ensures.value inputs in
    rw e (and_keeps _ _ _ _ (c.bits_of.ensures inputs is) (c.bits_of-in-And.ensures inputs is))

pub returns-in-Or : goal.returns-in-Or
returns-in-Or t c inputs is =
    let e = c.in-Or.ensures.value inputs in
    rw e (or_keeps _ _ _ _ (c.bits_of-in-Or.ensures inputs is) (c.bits_of-in-Or-2.ensures inputs is))

pub returns-in-Xor : goal.returns-in-Xor
returns-in-Xor t c inputs is =
    let e = c.in-Xor.ensures.value inputs in
    rw e (xor_keeps _ _ _ _ (c.bits_of-in-Xor.ensures inputs is) (c.bits_of-in-Xor-2.ensures inputs is))

pub returns-in-Ite : goal.returns-in-Ite
returns-in-Ite t c inputs is =
    let e = c.in-Ite.ensures.value inputs in
    rw e (choice_keeps _ _ _ _ _ (c.bits_of-in-Ite.ensures inputs is) (c.bits_of-in-Ite-2.ensures inputs is))

pub returns-in-Shl : goal.returns-in-Shl
returns-in-Shl t c inputs is =
    let e = c.in-Shl.ensures.value inputs in
    let f = c.shifted_left.ensures in
    rw (e, f) (shl_keeps _ _ _ (c.bits_of-in-Shl.ensures inputs is))

pub returns-in-Shr : goal.returns-in-Shr
returns-in-Shr t c inputs is =
    let e = c.in-Shr.ensures.value inputs in
    rw e (shr_keeps _ _ _ (c.bits_of-in-Shr.ensures inputs is))
