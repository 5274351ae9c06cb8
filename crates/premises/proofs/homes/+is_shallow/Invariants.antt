use Rattle.premises.proofs.homes.+is_shallow.Given as goal

-- the limit goes down
abbrev pub decreases-is_shallow : goal.decreases-is_shallow
decreases-is_shallow l = l.limit
