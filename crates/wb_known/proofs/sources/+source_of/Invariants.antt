use Rattle.wb_known.proofs.sources.+source_of.Given as goal

abbrev pub decreases-source_of : goal.decreases-source_of
decreases-source_of l = l.levels
