use Rattle.wb_diagram.proofs.diagrams.Diagrams.+decide.Given as goal

abbrev pub decreases-decide : goal.decreases-decide
decreases-decide l = l.depth
