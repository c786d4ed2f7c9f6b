use Rattle.wb_diagram.proofs.diagrams.Diagrams.+choose.Given as goal

abbrev pub decreases-choose : goal.decreases-choose
decreases-choose l = l.depth
