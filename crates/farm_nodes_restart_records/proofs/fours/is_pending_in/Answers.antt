-- Why `is_pending_in` meets its contract, and it may call `is_pending`.
use denote.Param.Send.{sendable}
use Rattle.farm_nodes_turn_passes.proofs.Sent.{function_send, function_sync}
use Rattle.farm_nodes_restart_records.proofs.fours.is_pending_in.Goals as goal

pub is_pending-requires-in-Allocation-send-P-Out-Fun : goal.is_pending-requires-in-Allocation-send-P-Out-Fun
is_pending-requires-in-Allocation-send-P-Out-Fun g c κs = search (function_send, sendable) depth 40

pub is_pending-requires-in-Allocation-sync-P-Out-Fun : goal.is_pending-requires-in-Allocation-sync-P-Out-Fun
is_pending-requires-in-Allocation-sync-P-Out-Fun g c κs = search (function_sync, sendable) depth 40

pub is_pending-requires-in-Order-send-P-In-Fun : goal.is_pending-requires-in-Order-send-P-In-Fun
is_pending-requires-in-Order-send-P-In-Fun g c κs = search (function_send, sendable) depth 40

pub is_pending-requires-in-Order-sync-P-In-Fun : goal.is_pending-requires-in-Order-sync-P-In-Fun
is_pending-requires-in-Order-sync-P-In-Fun g c κs = search (function_sync, sendable) depth 40

pub returns-in-Constants : goal.returns-in-Constants
returns-in-Constants g c = rw c.in-Constants.is c.is_pending.ensures

pub returns-in-Expressions : goal.returns-in-Expressions
returns-in-Expressions g c = rw c.in-Expressions.is c.is_pending-in-Expressions.ensures

pub returns-in-Allocation : goal.returns-in-Allocation
returns-in-Allocation g c = rw c.in-Allocation.is c.is_pending-in-Allocation.ensures

pub returns-in-Order : goal.returns-in-Order
returns-in-Order g c = rw c.in-Order.is c.is_pending-in-Order.ensures
