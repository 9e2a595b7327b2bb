use Rattle.worked_rows.proofs.commands.rows.tell.Given as goal

-- the hall that was opened
abbrev pub ghosts-tell_in : goal.ghosts-tell_in
ghosts-tell_in g a = record { hall = a.opened }
