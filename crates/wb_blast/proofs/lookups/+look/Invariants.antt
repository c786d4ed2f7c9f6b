use Rattle.wb_blast.proofs.lookups.+look.Given as goal

abbrev pub decreases-look : goal.decreases-look
decreases-look l = l.bits
