use Rattle.acceptor_log_writing.proofs.Either.{either-between}
use Rattle.acceptor_log_writing.proofs.laws.either_between.Goals as goal

pub returns : goal.returns
returns c = either-between
