use Rattle.std.proofs.Common.{◌<◌, ap, arith, length, take}
use Rattle.wb_gen.proofs.Writing.{one_more}
use Rattle.wb_gen.proofs.program.Program.push.Goals as goal

pub invariant_of-self : goal.invariant_of-self
invariant_of-self c =
    let h = c.self.invariant in
    let count = c.self.inside.count in
    let old = c.self.inside.image.prog in
    let room : length (take count old) < 2048 = let v = ap length c.self.view_is in let r = c.requires in omega arith in
    let more = one_more count c.value.result old c.set.new.self c.set.ensures.set c.set.ensures.table.len h.within room h.rest in
    record { within = more.within; rest = more.rest; drom = h.drom }
