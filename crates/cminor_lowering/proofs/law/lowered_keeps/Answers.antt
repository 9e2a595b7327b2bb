-- Why `lowered_keeps` meets its clauses `keeps` and `together`.
use Rattle.cminor_lowering.proofs.Programs.{lowered_keeps, runs_follow}
use Rattle.cminor_lowering.proofs.law.lowered_keeps.Goals as goal

pub returns-clause-keeps : goal.returns-clause-keeps
returns-clause-keeps c = lowered_keeps

pub returns-clause-together : goal.returns-clause-together
returns-clause-together c = runs_follow
