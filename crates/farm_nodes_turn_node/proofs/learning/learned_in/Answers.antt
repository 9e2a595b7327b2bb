-- Why `learned_in` meets its contract, and it may call `learned`.
use denote.Param.Send.{sendable}
use Rattle.farm_nodes_turn_function.proofs.Sent.{function_send, function_sync}
use Rattle.farm_nodes_turn_node.proofs.learning.learned_in.Goals as goal

pub returns-in-Constants : goal.returns-in-Constants
returns-in-Constants g c = rw c.in-Constants.is c.learned.ensures.value

pub returns-in-Expressions : goal.returns-in-Expressions
returns-in-Expressions g c = rw c.in-Expressions.is c.learned-in-Expressions.ensures.value

pub returns-in-Allocation : goal.returns-in-Allocation
returns-in-Allocation g c = rw c.in-Allocation.is c.learned-in-Allocation.ensures.value

pub returns-in-Order : goal.returns-in-Order
returns-in-Order g c = rw c.in-Order.is c.learned-in-Order.ensures.value

pub learned-requires-in-Allocation-send-P-Out-Fun : goal.learned-requires-in-Allocation-send-P-Out-Fun
learned-requires-in-Allocation-send-P-Out-Fun g c κs = search (function_send, sendable) depth 40

pub learned-requires-in-Allocation-sync-P-Out-Fun : goal.learned-requires-in-Allocation-sync-P-Out-Fun
learned-requires-in-Allocation-sync-P-Out-Fun g c κs = search (function_sync, sendable) depth 40

pub learned-requires-in-Order-send-P-In-Fun : goal.learned-requires-in-Order-send-P-In-Fun
learned-requires-in-Order-send-P-In-Fun g c κs = search (function_send, sendable) depth 40

pub learned-requires-in-Order-sync-P-In-Fun : goal.learned-requires-in-Order-sync-P-In-Fun
learned-requires-in-Order-sync-P-In-Fun g c κs = search (function_sync, sendable) depth 40
