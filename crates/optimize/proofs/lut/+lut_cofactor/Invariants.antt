use Rattle.optimize.proofs.lut.+lut_cofactor.Given as goal

-- proposed from what the function passes where it calls itself
abbrev pub decreases-lut_cofactor : goal.decreases-lut_cofactor
decreases-lut_cofactor l = l.left
