-- Why `crash_of_farm` meets its contract.
use Rattle.paxos_core_crash.proofs.FarmLemmas.{crashes_link_as_before}
use Rattle.paxos_core_crash.proofs.law.crash_of_farm.Goals as goal

pub returns : goal.returns
returns c = crashes_link_as_before
