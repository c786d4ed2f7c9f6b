use Rattle.wb_executed.proofs.symport.worked.+answered.Given as goal

abbrev pub decreases-answered : goal.decreases-answered
decreases-answered g l = l.most
