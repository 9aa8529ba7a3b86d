use Rattle.decimals.proofs.+put_last.Given as goal

abbrev pub decreases-put_last : goal.decreases-put_last
decreases-put_last l = l.d
