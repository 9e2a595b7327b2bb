-- Why `take_act` meets its clauses.
use Rattle.std.proofs.Common.{refl}
use denote.Param.Send.{sendable}
use Rattle.farm_nodes_turn_passes.proofs.Sent.{function_send, function_sync}
use Rattle.farm_nodes_sweep_function.proofs.taking.take_act.Goals as goal

pub returns-in-Constants-clause-others : goal.returns-in-Constants-clause-others
returns-in-Constants-clause-others g c = rw c.in-Constants.is refl

pub returns-in-Constants-clause-does : goal.returns-in-Constants-clause-does
returns-in-Constants-clause-does g c = rw c.in-Constants.is c.take_on.ensures

pub returns-in-Expressions-clause-others : goal.returns-in-Expressions-clause-others
returns-in-Expressions-clause-others g c = rw c.in-Expressions.is refl

pub returns-in-Expressions-clause-does : goal.returns-in-Expressions-clause-does
returns-in-Expressions-clause-does g c = rw c.in-Expressions.is c.take_on-in-Expressions.ensures

pub returns-in-Allocation-clause-others : goal.returns-in-Allocation-clause-others
returns-in-Allocation-clause-others g c = rw c.in-Allocation.is refl

pub returns-in-Allocation-clause-does : goal.returns-in-Allocation-clause-does
returns-in-Allocation-clause-does g c = rw c.in-Allocation.is c.take_on-in-Allocation.ensures

pub returns-in-Order-clause-others : goal.returns-in-Order-clause-others
returns-in-Order-clause-others g c = rw c.in-Order.is refl

pub returns-in-Order-clause-does : goal.returns-in-Order-clause-does
returns-in-Order-clause-does g c = rw c.in-Order.is c.take_on-in-Order.ensures

pub take_on-requires-in-Allocation-send-P-Out-Fun : goal.take_on-requires-in-Allocation-send-P-Out-Fun
take_on-requires-in-Allocation-send-P-Out-Fun g c κs = search (function_send, sendable) depth 40

pub take_on-requires-in-Allocation-sync-P-Out-Fun : goal.take_on-requires-in-Allocation-sync-P-Out-Fun
take_on-requires-in-Allocation-sync-P-Out-Fun g c κs = search (function_sync, sendable) depth 40

pub take_on-requires-in-Order-send-P-In-Fun : goal.take_on-requires-in-Order-send-P-In-Fun
take_on-requires-in-Order-send-P-In-Fun g c κs = search (function_send, sendable) depth 40

pub take_on-requires-in-Order-sync-P-In-Fun : goal.take_on-requires-in-Order-sync-P-In-Fun
take_on-requires-in-Order-sync-P-In-Fun g c κs = search (function_sync, sendable) depth 40
