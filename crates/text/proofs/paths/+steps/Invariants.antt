use Rattle.text.proofs.paths.+steps.Given as goal

abbrev pub decreases-steps : goal.decreases-steps
decreases-steps l = l.n
