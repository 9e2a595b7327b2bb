use Rattle.acceptor_log_writing.proofs.Crash.{text-created, text-grown, texts-grown}
use Rattle.acceptor_log_writing.proofs.laws.text_grows.Goals as goal

pub returns-clause-made : goal.returns-clause-made
returns-clause-made c = text-created

pub returns-clause-grown : goal.returns-clause-grown
returns-clause-grown c = text-grown

pub returns-clause-by_all : goal.returns-clause-by_all
returns-clause-by_all c = texts-grown
