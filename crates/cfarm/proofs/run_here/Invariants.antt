use Rattle.cfarm.proofs.run_here.Given as goal

-- the hall that was opened
abbrev pub ghosts-run_in : goal.ghosts-run_in
ghosts-run_in g a = record { hall = a.opened }
