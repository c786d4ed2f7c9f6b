use Rattle.wb_vector.proofs.lookups.+look_from.Given as goal

abbrev pub decreases-look_from : goal.decreases-look_from
decreases-look_from l = l.bits
