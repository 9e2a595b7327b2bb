-- Why `stage_in` meets its clauses, and it may call `stage_behind`.
use denote.Param.Send.{sendable}
use Rattle.std.proofs.Common.{◌≡◌, ◌&&◌, true, Option, Result, refl, sym, subst}
use Rattle.std.specs.Prelude.{IfErr}
use Rattle.std.specs.Arc.{arc_value}
use Rattle.rtl_language.specs.contracts.language.RtlLanguage.TheImpl as rtl_language
use Rattle.ltl.specs.contracts.language.LtlLanguage.TheImpl as ltl_language
use Rattle.linear_language.specs.contracts.language.LinearLanguage.TheImpl as linear_language
use Rattle.farm_nodes_turn_passes.specs.ConstPropPass.TheImpl as constants
use Rattle.farm_nodes_turn_passes.specs.CsePass.TheImpl as expressions
use Rattle.farm_nodes_turn_passes.specs.AllocPass.TheImpl as allocation
use Rattle.farm_nodes_turn_passes.specs.LinearizePass.TheImpl as order
use Rattle.acceptor_log_form.specs.declared.record.Record.{Record}
use Rattle.farm_nodes_turn_passes.specs.Fours.{four_of}
use Rattle.farm_nodes_turn_passes.specs.declared.which.Which.TheVariants.{Constants, Expressions, Allocation, Order}
use Rattle.farm_nodes_turn_passes.proofs.Sent.{function_send, function_sync}
use Rattle.farm_nodes_turn_room.specs.Fault.{Fault}
use Rattle.farm_nodes_turn_room.specs.Leading.{may_start}
use Rattle.farm_nodes_turn_room.specs.Played.{IsChoiceFault}
use Rattle.farm_nodes_turn_function.specs.Turned.{HasLearned, IsTooLargeFor}
use Rattle.farm_nodes_sweep_step.specs.Next.{HasNoNext}
use Rattle.farm_nodes_sweep_room.specs.Chosen.{WhereNone, WhereTold}
use Rattle.farm_nodes_sweep_function.specs.declared.planned.Planned.{Planned}
use Rattle.farm_nodes_sweep_function.specs.declared.planned.Step.{Step}
use Rattle.farm_nodes_sweep_function.specs.declared.planned.Step.TheVariants as step
use Rattle.farm_nodes_sweep_function.specs.RoomSeat.{Fours, InConstants, InExpressions, InAllocation, InOrder}
use Rattle.farm_nodes_sweep_function.specs.Staged.{HasInputOf, IsSettled, PlansIn}
use Rattle.farm_nodes_sweep_function.proofs.Told.{acts_none, err_told, held_plans, where_none, where_told}
use Rattle.farm_nodes_sweep_function.proofs.staging.stage_in.Goals as goal

pub returns-in-Constants-clause-others : goal.returns-in-Constants-clause-others
returns-in-Constants-clause-others g c = rw c.in-Constants.is refl

pub returns-in-Constants-clause-looks : goal.returns-in-Constants-clause-looks
returns-in-Constants-clause-looks g c =
    rw c.in-Constants.is (record { words = c.stage_first.ensures.words; room = c.stage_first.ensures.room; seen = c.stage_first.ensures.seen })

pub returns-in-Constants-clause-planned : goal.returns-in-Constants-clause-planned
returns-in-Constants-clause-planned g c =
    let seat = c.stage_first.new.seat in
    let P = λ (r : Record) (x : Step). PlansIn c.args.room c.args.is_its_turn (InConstants seat) r x in
    rw c.in-Constants.is
    (subst (λ (told : Result (Option Planned) Fault). WhereTold told (λ m. P m.entry m.step)) (sym c.first.ensures)
    (where_told step.First c.stage_first.result P
    (held_plans rtl_language.ghosts rtl_language.ghosts constants.ghosts (λ x. arc_value x) c.args.room seat c.stage_first.result c.stage_first.ensures.offer)
    c.stage_first.ensures.act))

pub returns-in-Constants-clause-input : goal.returns-in-Constants-clause-input
returns-in-Constants-clause-input g c =
    let P = λ (r : Record) (x : Step). HasInputOf c.args.function.now (record (four_of c.args.seats.now) { constants = c.stage_first.new.seat }) x in
    subst (λ (told : Result (Option Planned) Fault). WhereTold told (λ m. P m.entry m.step)) (sym c.first.ensures)
    (where_told step.First c.stage_first.result P c.stage_first.ensures.input (acts_none c.stage_first.result))

pub returns-in-Constants-clause-settled : goal.returns-in-Constants-clause-settled
returns-in-Constants-clause-settled g c =
    let new : Fours = (record (four_of c.args.seats.now) { constants = c.stage_first.new.seat }) in
    let words = c.stage_first.new.seat.words in
    rw c.in-Constants.is
    (subst (λ (told : Result (Option Planned) Fault). WhereNone told (IsSettled c.args.is_its_turn Constants new)) (sym c.first.ensures)
    (where_none step.First c.stage_first.result (c.stage_first.new.seat.words.node.kept.offered ≡ true) (HasNoNext (c.args.is_its_turn && may_start words.node) words)
    (IsSettled c.args.is_its_turn Constants new) (λ (offered : c.stage_first.new.seat.words.node.kept.offered ≡ true) next. record { offered = λ known. offered; next = next }) c.stage_first.ensures.offered c.stage_first.ensures.nothing))

pub returns-in-Constants-clause-refused : goal.returns-in-Constants-clause-refused
returns-in-Constants-clause-refused g c =
    let new : Fours = (record (four_of c.args.seats.now) { constants = c.stage_first.new.seat }) in
    rw c.in-Constants.is
    (subst (λ (told : Result (Option Planned) Fault). IfErr told (IsChoiceFault (IsTooLargeFor c.args.function.now Constants new))) (sym c.first.ensures)
    (err_told step.First c.stage_first.result (IsChoiceFault (IsTooLargeFor c.args.function.now Constants new)) c.stage_first.ensures.refused))

pub returns-in-Expressions-clause-others : goal.returns-in-Expressions-clause-others
returns-in-Expressions-clause-others g c = rw c.in-Expressions.is refl

pub returns-in-Expressions-clause-looks : goal.returns-in-Expressions-clause-looks
returns-in-Expressions-clause-looks g c =
    rw c.in-Expressions.is (record { words = c.stage_behind.ensures.words; room = c.stage_behind.ensures.room; seen = c.stage_behind.ensures.seen })

pub returns-in-Expressions-clause-planned : goal.returns-in-Expressions-clause-planned
returns-in-Expressions-clause-planned g c =
    let seat = c.stage_behind.new.seat in
    let P = λ (r : Record) (x : Step). PlansIn c.args.room c.args.is_its_turn (InExpressions seat) r x in
    rw c.in-Expressions.is
    (subst (λ (told : Result (Option Planned) Fault). WhereTold told (λ m. P m.entry m.step)) (sym c.second.ensures)
    (where_told step.Second c.stage_behind.result P
    (held_plans rtl_language.ghosts rtl_language.ghosts expressions.ghosts (λ x. arc_value x) c.args.room seat c.stage_behind.result c.stage_behind.ensures.offer)
    c.stage_behind.ensures.act))

pub returns-in-Expressions-clause-input : goal.returns-in-Expressions-clause-input
returns-in-Expressions-clause-input g c =
    let P = λ (r : Record) (x : Step). HasInputOf c.args.function.now (record (four_of c.args.seats.now) { expressions = c.stage_behind.new.seat }) x in
    subst (λ (told : Result (Option Planned) Fault). WhereTold told (λ m. P m.entry m.step)) (sym c.second.ensures)
    (where_told step.Second c.stage_behind.result P c.stage_behind.ensures.input (acts_none c.stage_behind.result))

pub returns-in-Expressions-clause-settled : goal.returns-in-Expressions-clause-settled
returns-in-Expressions-clause-settled g c =
    let new : Fours = (record (four_of c.args.seats.now) { expressions = c.stage_behind.new.seat }) in
    let words = c.stage_behind.new.seat.words in
    rw c.in-Expressions.is
    (subst (λ (told : Result (Option Planned) Fault). WhereNone told (IsSettled c.args.is_its_turn Expressions new)) (sym c.second.ensures)
    (where_none step.Second c.stage_behind.result (HasLearned (four_of c.args.seats.now).constants → c.stage_behind.new.seat.words.node.kept.offered ≡ true) (HasNoNext (c.args.is_its_turn && may_start words.node) words)
    (IsSettled c.args.is_its_turn Expressions new) (λ offered next. record { offered = offered; next = next }) c.stage_behind.ensures.offered c.stage_behind.ensures.nothing))

pub returns-in-Expressions-clause-refused : goal.returns-in-Expressions-clause-refused
returns-in-Expressions-clause-refused g c =
    let new : Fours = (record (four_of c.args.seats.now) { expressions = c.stage_behind.new.seat }) in
    rw c.in-Expressions.is
    (subst (λ (told : Result (Option Planned) Fault). IfErr told (IsChoiceFault (IsTooLargeFor c.args.function.now Expressions new))) (sym c.second.ensures)
    (err_told step.Second c.stage_behind.result (IsChoiceFault (IsTooLargeFor c.args.function.now Expressions new)) c.stage_behind.ensures.refused))

pub returns-in-Allocation-clause-others : goal.returns-in-Allocation-clause-others
returns-in-Allocation-clause-others g c = rw c.in-Allocation.is refl

pub returns-in-Allocation-clause-looks : goal.returns-in-Allocation-clause-looks
returns-in-Allocation-clause-looks g c =
    rw c.in-Allocation.is (record { words = c.stage_behind-in-Allocation.ensures.words; room = c.stage_behind-in-Allocation.ensures.room; seen = c.stage_behind-in-Allocation.ensures.seen })

pub returns-in-Allocation-clause-planned : goal.returns-in-Allocation-clause-planned
returns-in-Allocation-clause-planned g c =
    let seat = c.stage_behind-in-Allocation.new.seat in
    let P = λ (r : Record) (x : Step). PlansIn c.args.room c.args.is_its_turn (InAllocation seat) r x in
    rw c.in-Allocation.is
    (subst (λ (told : Result (Option Planned) Fault). WhereTold told (λ m. P m.entry m.step)) (sym c.third.ensures)
    (where_told step.Third c.stage_behind-in-Allocation.result P
    (held_plans rtl_language.ghosts ltl_language.ghosts allocation.ghosts (λ x. arc_value x) c.args.room seat c.stage_behind-in-Allocation.result c.stage_behind-in-Allocation.ensures.offer)
    c.stage_behind-in-Allocation.ensures.act))

pub returns-in-Allocation-clause-input : goal.returns-in-Allocation-clause-input
returns-in-Allocation-clause-input g c =
    let P = λ (r : Record) (x : Step). HasInputOf c.args.function.now (record (four_of c.args.seats.now) { allocation = c.stage_behind-in-Allocation.new.seat }) x in
    subst (λ (told : Result (Option Planned) Fault). WhereTold told (λ m. P m.entry m.step)) (sym c.third.ensures)
    (where_told step.Third c.stage_behind-in-Allocation.result P c.stage_behind-in-Allocation.ensures.input (acts_none c.stage_behind-in-Allocation.result))

pub returns-in-Allocation-clause-settled : goal.returns-in-Allocation-clause-settled
returns-in-Allocation-clause-settled g c =
    let new : Fours = (record (four_of c.args.seats.now) { allocation = c.stage_behind-in-Allocation.new.seat }) in
    let words = c.stage_behind-in-Allocation.new.seat.words in
    rw c.in-Allocation.is
    (subst (λ (told : Result (Option Planned) Fault). WhereNone told (IsSettled c.args.is_its_turn Allocation new)) (sym c.third.ensures)
    (where_none step.Third c.stage_behind-in-Allocation.result (HasLearned (four_of c.args.seats.now).expressions → c.stage_behind-in-Allocation.new.seat.words.node.kept.offered ≡ true) (HasNoNext (c.args.is_its_turn && may_start words.node) words)
    (IsSettled c.args.is_its_turn Allocation new) (λ offered next. record { offered = offered; next = next }) c.stage_behind-in-Allocation.ensures.offered c.stage_behind-in-Allocation.ensures.nothing))

pub returns-in-Allocation-clause-refused : goal.returns-in-Allocation-clause-refused
returns-in-Allocation-clause-refused g c =
    let new : Fours = (record (four_of c.args.seats.now) { allocation = c.stage_behind-in-Allocation.new.seat }) in
    rw c.in-Allocation.is
    (subst (λ (told : Result (Option Planned) Fault). IfErr told (IsChoiceFault (IsTooLargeFor c.args.function.now Allocation new))) (sym c.third.ensures)
    (err_told step.Third c.stage_behind-in-Allocation.result (IsChoiceFault (IsTooLargeFor c.args.function.now Allocation new)) c.stage_behind-in-Allocation.ensures.refused))

pub returns-in-Order-clause-others : goal.returns-in-Order-clause-others
returns-in-Order-clause-others g c = rw c.in-Order.is refl

pub returns-in-Order-clause-looks : goal.returns-in-Order-clause-looks
returns-in-Order-clause-looks g c =
    rw c.in-Order.is (record { words = c.stage_behind-in-Order.ensures.words; room = c.stage_behind-in-Order.ensures.room; seen = c.stage_behind-in-Order.ensures.seen })

pub returns-in-Order-clause-planned : goal.returns-in-Order-clause-planned
returns-in-Order-clause-planned g c =
    let seat = c.stage_behind-in-Order.new.seat in
    let P = λ (r : Record) (x : Step). PlansIn c.args.room c.args.is_its_turn (InOrder seat) r x in
    rw c.in-Order.is
    (subst (λ (told : Result (Option Planned) Fault). WhereTold told (λ m. P m.entry m.step)) (sym c.fourth.ensures)
    (where_told step.Fourth c.stage_behind-in-Order.result P
    (held_plans ltl_language.ghosts linear_language.ghosts order.ghosts (λ x. arc_value x) c.args.room seat c.stage_behind-in-Order.result c.stage_behind-in-Order.ensures.offer)
    c.stage_behind-in-Order.ensures.act))

pub returns-in-Order-clause-input : goal.returns-in-Order-clause-input
returns-in-Order-clause-input g c =
    let P = λ (r : Record) (x : Step). HasInputOf c.args.function.now (record (four_of c.args.seats.now) { order = c.stage_behind-in-Order.new.seat }) x in
    subst (λ (told : Result (Option Planned) Fault). WhereTold told (λ m. P m.entry m.step)) (sym c.fourth.ensures)
    (where_told step.Fourth c.stage_behind-in-Order.result P c.stage_behind-in-Order.ensures.input (acts_none c.stage_behind-in-Order.result))

pub returns-in-Order-clause-settled : goal.returns-in-Order-clause-settled
returns-in-Order-clause-settled g c =
    let new : Fours = (record (four_of c.args.seats.now) { order = c.stage_behind-in-Order.new.seat }) in
    let words = c.stage_behind-in-Order.new.seat.words in
    rw c.in-Order.is
    (subst (λ (told : Result (Option Planned) Fault). WhereNone told (IsSettled c.args.is_its_turn Order new)) (sym c.fourth.ensures)
    (where_none step.Fourth c.stage_behind-in-Order.result (HasLearned (four_of c.args.seats.now).allocation → c.stage_behind-in-Order.new.seat.words.node.kept.offered ≡ true) (HasNoNext (c.args.is_its_turn && may_start words.node) words)
    (IsSettled c.args.is_its_turn Order new) (λ offered next. record { offered = offered; next = next }) c.stage_behind-in-Order.ensures.offered c.stage_behind-in-Order.ensures.nothing))

pub returns-in-Order-clause-refused : goal.returns-in-Order-clause-refused
returns-in-Order-clause-refused g c =
    let new : Fours = (record (four_of c.args.seats.now) { order = c.stage_behind-in-Order.new.seat }) in
    rw c.in-Order.is
    (subst (λ (told : Result (Option Planned) Fault). IfErr told (IsChoiceFault (IsTooLargeFor c.args.function.now Order new))) (sym c.fourth.ensures)
    (err_told step.Fourth c.stage_behind-in-Order.result (IsChoiceFault (IsTooLargeFor c.args.function.now Order new)) c.stage_behind-in-Order.ensures.refused))

pub stage_behind-requires-in-Allocation-send-P-Out-Fun : goal.stage_behind-requires-in-Allocation-send-P-Out-Fun
stage_behind-requires-in-Allocation-send-P-Out-Fun g c κs within = search (function_send, sendable) depth 40

pub stage_behind-requires-in-Allocation-sync-P-Out-Fun : goal.stage_behind-requires-in-Allocation-sync-P-Out-Fun
stage_behind-requires-in-Allocation-sync-P-Out-Fun g c κs within = search (function_sync, sendable) depth 40

pub stage_behind-requires-in-Order-send-B-Out-Fun : goal.stage_behind-requires-in-Order-send-B-Out-Fun
stage_behind-requires-in-Order-send-B-Out-Fun g c κs within = search (function_send, sendable) depth 40

pub stage_behind-requires-in-Order-sync-B-Out-Fun : goal.stage_behind-requires-in-Order-sync-B-Out-Fun
stage_behind-requires-in-Order-sync-B-Out-Fun g c κs within = search (function_sync, sendable) depth 40
