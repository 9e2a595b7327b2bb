use Rattle.worked_hostile.proofs.farms.told.Given as goal

-- the hall that was opened
abbrev pub ghosts-told_in : goal.ghosts-told_in
ghosts-told_in g a = record { hall = a.opened }
