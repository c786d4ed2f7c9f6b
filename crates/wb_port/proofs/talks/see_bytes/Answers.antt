use Rattle.std.proofs.Common.{◌≤◌, All, length, subst, arith}
use Rattle.std.proofs.lemmas.List.{take_all}
use Rattle.std.proofs.lemmas.List.Elements.{All-more}
use Rattle.wb_port.specs.declared.accesses.Access.TheVariants as access
use Rattle.wb_port.specs.Talk.{IsByteAccess}
use Rattle.wb_port.proofs.talks.see_bytes.Goals as goal

pub loop-access-preserved : goal.loop-access-preserved
loop-access-preserved c =
    All-more IsByteAccess c.args.accesses.now c.loop-access.access-index access.Status c.loop-access-test.true
    c.loop-access.invariant c.see_byte.ensures

pub returns : goal.returns
returns c =
    let most : length c.args.accesses.now ≤ c.loop-access.access-index = let h = c.loop-access-test.false in omega arith in
    subst (All IsByteAccess) (take_all c.loop-access.access-index c.args.accesses.now most) c.loop-access.invariant
