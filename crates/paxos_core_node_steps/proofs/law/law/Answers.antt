-- Why `law` meets its clauses `next`, `offer`, `start`, `propose` and 4 more.
use Rattle.paxos_core_node_steps.proofs.BallotLemmas.{least_above_is}
use Rattle.paxos_core_node_steps.proofs.TakesLemmas.{offer_takes, start_takes, propose_takes, on_takes, restart_takes}
use Rattle.paxos_core_node_steps.proofs.WouldLemmas.{told_is_done, proposed_once}
use Rattle.paxos_core_node_steps.proofs.law.law.Goals as goal

pub returns-clause-next : goal.returns-clause-next
returns-clause-next c = least_above_is

pub returns-clause-offer : goal.returns-clause-offer
returns-clause-offer c = offer_takes

pub returns-clause-start : goal.returns-clause-start
returns-clause-start c = start_takes

pub returns-clause-propose : goal.returns-clause-propose
returns-clause-propose c = propose_takes

pub returns-clause-message : goal.returns-clause-message
returns-clause-message c = on_takes

pub returns-clause-restart : goal.returns-clause-restart
returns-clause-restart c = restart_takes

pub returns-clause-told : goal.returns-clause-told
returns-clause-told c = told_is_done

pub returns-clause-once : goal.returns-clause-once
returns-clause-once c = proposed_once
