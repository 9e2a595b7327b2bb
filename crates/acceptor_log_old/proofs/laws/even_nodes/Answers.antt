-- Why `even_nodes` meets its contract.
use Rattle.std.proofs.Common.{inl}
use Rattle.acceptor_log_old.proofs.OldHeaders.{even-other}
use Rattle.acceptor_log_old.proofs.laws.even_nodes.Goals as goal

pub returns : goal.returns
returns c h half bytes first even = (inl first, even-other h half bytes first even)
