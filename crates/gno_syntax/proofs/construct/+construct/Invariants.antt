use Rattle.gno_syntax.proofs.construct.+construct.Given as goal

abbrev pub decreases-construct : goal.decreases-construct
decreases-construct l = l.depth
