use Rattle.durable_model.specs.RealFile.{seen_by_file}
use Rattle.acceptor_log.proofs.laws.file_survives.Goals as goal

pub returns-clause-between : goal.returns-clause-between
returns-clause-between c h low high from before after run honest = run.each (seen_by_file after) honest

pub returns-clause-whole : goal.returns-clause-whole
returns-clause-whole c h low high from before after run honest = run.each (seen_by_file after) honest
