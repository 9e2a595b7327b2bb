-- Why `take_in` meets its clauses `ok` and `err`, and it may call `take`.
use denote.Param.Send.{sendable}
use Rattle.std.proofs.Common.{refl, ap}
use Rattle.farm_nodes_restart_seat.specs.SeatValue.{SeatValue}
use Rattle.farm_nodes_restart_records.specs.Fours.{four_of}
use Rattle.farm_nodes_restart_records.specs.Offers.{ConstantsOffer, ExpressionsOffer, AllocationOffer, OrderOffer}
use Rattle.farm_nodes_restart_records.proofs.Sent.{function_send, function_sync}
use Rattle.farm_nodes_restart_node.proofs.Afterwards.{err_with, ok_with}
use Rattle.farm_nodes_restart_node.proofs.fours.take_in.Goals as goal

pub take-requires-in-Allocation-send-P-Out-Fun : goal.take-requires-in-Allocation-send-P-Out-Fun
take-requires-in-Allocation-send-P-Out-Fun g c κs = search (function_send, sendable) depth 40

pub take-requires-in-Allocation-sync-P-Out-Fun : goal.take-requires-in-Allocation-sync-P-Out-Fun
take-requires-in-Allocation-sync-P-Out-Fun g c κs = search (function_sync, sendable) depth 40

pub take-requires-in-Order-send-P-In-Fun : goal.take-requires-in-Order-send-P-In-Fun
take-requires-in-Order-send-P-In-Fun g c κs = search (function_send, sendable) depth 40

pub take-requires-in-Order-sync-P-In-Fun : goal.take-requires-in-Order-sync-P-In-Fun
take-requires-in-Order-sync-P-In-Fun g c κs = search (function_sync, sendable) depth 40

pub returns-in-Constants-clause-ok : goal.returns-in-Constants-clause-ok
returns-in-Constants-clause-ok g c = rw c.in-Constants.is (ok_with c.take.result (λ took. (took, refl)) c.take.ensures.ok)

pub returns-in-Constants-clause-err : goal.returns-in-Constants-clause-err
returns-in-Constants-clause-err g c = err_with c.take.result (λ same. ap (λ (s : SeatValue ConstantsOffer). record (four_of c.args.numbered.now) { constants = s }) same) c.take.ensures.err

pub returns-in-Expressions-clause-ok : goal.returns-in-Expressions-clause-ok
returns-in-Expressions-clause-ok g c = rw c.in-Expressions.is (ok_with c.take-in-Expressions.result (λ took. (took, refl)) c.take-in-Expressions.ensures.ok)

pub returns-in-Expressions-clause-err : goal.returns-in-Expressions-clause-err
returns-in-Expressions-clause-err g c = err_with c.take-in-Expressions.result (λ same. ap (λ (s : SeatValue ExpressionsOffer). record (four_of c.args.numbered.now) { expressions = s }) same) c.take-in-Expressions.ensures.err

pub returns-in-Allocation-clause-ok : goal.returns-in-Allocation-clause-ok
returns-in-Allocation-clause-ok g c = rw c.in-Allocation.is (ok_with c.take-in-Allocation.result (λ took. (took, refl)) c.take-in-Allocation.ensures.ok)

pub returns-in-Allocation-clause-err : goal.returns-in-Allocation-clause-err
returns-in-Allocation-clause-err g c = err_with c.take-in-Allocation.result (λ same. ap (λ (s : SeatValue AllocationOffer). record (four_of c.args.numbered.now) { allocation = s }) same) c.take-in-Allocation.ensures.err

pub returns-in-Order-clause-ok : goal.returns-in-Order-clause-ok
returns-in-Order-clause-ok g c = rw c.in-Order.is (ok_with c.take-in-Order.result (λ took. (took, refl)) c.take-in-Order.ensures.ok)

pub returns-in-Order-clause-err : goal.returns-in-Order-clause-err
returns-in-Order-clause-err g c = err_with c.take-in-Order.result (λ same. ap (λ (s : SeatValue OrderOffer). record (four_of c.args.numbered.now) { order = s }) same) c.take-in-Order.ensures.err
