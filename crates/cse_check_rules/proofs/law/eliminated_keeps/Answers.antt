-- Why `eliminated_keeps` meets its clauses `lists` and `rows`.
use Rattle.cse_check_rules.proofs.Sound.{sound, rows_sound}
use Rattle.cse_check_rules.proofs.law.eliminated_keeps.Goals as goal

pub returns-clause-lists : goal.returns-clause-lists
returns-clause-lists c = sound

pub returns-clause-rows : goal.returns-clause-rows
returns-clause-rows c = rows_sound
