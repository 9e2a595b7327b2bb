-- Why `take_in` meets its clauses, and it may call `take_act`.
use Rattle.std.proofs.Common.{◌≡◌, refl, sym, ap, subst}
use denote.Param.Send.{sendable}
use Rattle.farm_nodes_turn_passes.proofs.Sent.{function_send, function_sync}
use Rattle.std.specs.Arc.{arc_value}
use Rattle.farm_nodes_turn_offer.specs.Offered.{PutsOffer}
use Rattle.farm_nodes_turn_offer.specs.SeatValue.{IsOneRoom}
use Rattle.farm_nodes_turn_passes.specs.Fours.{four_of}
use Rattle.farm_nodes_turn_passes.specs.declared.which.Which.{Which}
use Rattle.farm_nodes_turn_passes.specs.declared.which.Which.TheVariants.{Constants, Expressions, Allocation, Order}
use Rattle.farm_nodes_turn_function.specs.Turned.{OthersStay}
use Rattle.farm_nodes_sweep_function.specs.declared.planned.Step.{Step}
use Rattle.farm_nodes_sweep_function.specs.Due.{DoesIn, MayDoIn}
use Rattle.farm_nodes_sweep_function.specs.RoomSeat.{Fours, InConstants, InExpressions, InAllocation, InOrder, seat_of}
use Rattle.farm_nodes_sweep_function.proofs.Passes.{err_map, may_act, ok_both, own_pass, pass_for}
use Rattle.farm_nodes_sweep_function.proofs.taking.take_in.Goals as goal

pub take_act-requires : goal.take_act-requires
take_act-requires g c =
    let s = four_of c.args.seats.now in
    may_act c.args.pass s c.in-Act.act (subst (λ (x : Step). MayDoIn (seat_of s c.args.pass) x) c.in-Act.is c.requires)

pub returns-in-Act-clause-others : goal.returns-in-Act-clause-others
returns-in-Act-clause-others g c = c.take_act.ensures.others

pub returns-in-Act-clause-does : goal.returns-in-Act-clause-does
returns-in-Act-clause-does g c =
    let s = four_of c.args.seats.now in
    let t = four_of c.take_act.new.seats in
    subst (λ (x : Step). DoesIn x (seat_of s c.args.pass) (seat_of t c.args.pass)) (sym c.in-Act.is) c.take_act.ensures.does

pub returns-in-First-clause-others : goal.returns-in-First-clause-others
returns-in-First-clause-others g c =
    let s = four_of c.args.seats.now in
    let same : Constants ≡ c.args.pass = own_pass c.args.pass s c.args.step.now Constants (ap pass_for c.in-First.is) c.requires in
    subst (λ (q : Which). OthersStay q s (record s { constants = c.lay.new.seat })) same refl

pub returns-in-First-clause-does : goal.returns-in-First-clause-does
returns-in-First-clause-does g c =
    let s = four_of c.args.seats.now in
    let t : Fours = record s { constants = c.lay.new.seat } in
    let x = arc_value c.in-First.offer in
    let same : Constants ≡ c.args.pass = own_pass c.args.pass s c.args.step.now Constants (ap pass_for c.in-First.is) c.requires in
    ok_both c.lay.result (PutsOffer x s.constants t.constants) (IsOneRoom s.constants t.constants) (DoesIn c.args.step.now (seat_of s c.args.pass) (seat_of t c.args.pass))
    (λ puts room.
    subst (λ (q : Which). DoesIn c.args.step.now (seat_of s q) (seat_of t q)) same
    (subst (λ (y : Step). DoesIn y (InConstants s.constants) (InConstants t.constants)) (sym c.in-First.is) (puts, room)))
    c.lay.ensures.ok c.lay.ensures.room

pub returns-in-First-clause-err : goal.returns-in-First-clause-err
returns-in-First-clause-err g c =
    let s = four_of c.args.seats.now in
    err_map c.lay.result (c.lay.new.seat ≡ s.constants) (record s { constants = c.lay.new.seat } ≡ s)
    (λ e. ap (λ u. record s { constants = u }) e) c.lay.ensures.err

pub returns-in-First-clause-refused : goal.returns-in-First-clause-refused
returns-in-First-clause-refused g c = rw c.in-First.is c.lay.ensures.faults

pub returns-in-Second-clause-others : goal.returns-in-Second-clause-others
returns-in-Second-clause-others g c =
    let s = four_of c.args.seats.now in
    let same : Expressions ≡ c.args.pass = own_pass c.args.pass s c.args.step.now Expressions (ap pass_for c.in-Second.is) c.requires in
    subst (λ (q : Which). OthersStay q s (record s { expressions = c.lay-in-Second.new.seat })) same refl

pub returns-in-Second-clause-does : goal.returns-in-Second-clause-does
returns-in-Second-clause-does g c =
    let s = four_of c.args.seats.now in
    let t : Fours = record s { expressions = c.lay-in-Second.new.seat } in
    let x = arc_value c.in-Second.offer in
    let same : Expressions ≡ c.args.pass = own_pass c.args.pass s c.args.step.now Expressions (ap pass_for c.in-Second.is) c.requires in
    ok_both c.lay-in-Second.result (PutsOffer x s.expressions t.expressions) (IsOneRoom s.expressions t.expressions) (DoesIn c.args.step.now (seat_of s c.args.pass) (seat_of t c.args.pass))
    (λ puts room.
    subst (λ (q : Which). DoesIn c.args.step.now (seat_of s q) (seat_of t q)) same
    (subst (λ (y : Step). DoesIn y (InExpressions s.expressions) (InExpressions t.expressions)) (sym c.in-Second.is) (puts, room)))
    c.lay-in-Second.ensures.ok c.lay-in-Second.ensures.room

pub returns-in-Second-clause-err : goal.returns-in-Second-clause-err
returns-in-Second-clause-err g c =
    let s = four_of c.args.seats.now in
    err_map c.lay-in-Second.result (c.lay-in-Second.new.seat ≡ s.expressions) (record s { expressions = c.lay-in-Second.new.seat } ≡ s)
    (λ e. ap (λ u. record s { expressions = u }) e) c.lay-in-Second.ensures.err

pub returns-in-Second-clause-refused : goal.returns-in-Second-clause-refused
returns-in-Second-clause-refused g c = rw c.in-Second.is c.lay-in-Second.ensures.faults

pub returns-in-Third-clause-others : goal.returns-in-Third-clause-others
returns-in-Third-clause-others g c =
    let s = four_of c.args.seats.now in
    let same : Allocation ≡ c.args.pass = own_pass c.args.pass s c.args.step.now Allocation (ap pass_for c.in-Third.is) c.requires in
    subst (λ (q : Which). OthersStay q s (record s { allocation = c.lay-in-Third.new.seat })) same refl

pub returns-in-Third-clause-does : goal.returns-in-Third-clause-does
returns-in-Third-clause-does g c =
    let s = four_of c.args.seats.now in
    let t : Fours = record s { allocation = c.lay-in-Third.new.seat } in
    let x = arc_value c.in-Third.offer in
    let same : Allocation ≡ c.args.pass = own_pass c.args.pass s c.args.step.now Allocation (ap pass_for c.in-Third.is) c.requires in
    ok_both c.lay-in-Third.result (PutsOffer x s.allocation t.allocation) (IsOneRoom s.allocation t.allocation) (DoesIn c.args.step.now (seat_of s c.args.pass) (seat_of t c.args.pass))
    (λ puts room.
    subst (λ (q : Which). DoesIn c.args.step.now (seat_of s q) (seat_of t q)) same
    (subst (λ (y : Step). DoesIn y (InAllocation s.allocation) (InAllocation t.allocation)) (sym c.in-Third.is) (puts, room)))
    c.lay-in-Third.ensures.ok c.lay-in-Third.ensures.room

pub returns-in-Third-clause-err : goal.returns-in-Third-clause-err
returns-in-Third-clause-err g c =
    let s = four_of c.args.seats.now in
    err_map c.lay-in-Third.result (c.lay-in-Third.new.seat ≡ s.allocation) (record s { allocation = c.lay-in-Third.new.seat } ≡ s)
    (λ e. ap (λ u. record s { allocation = u }) e) c.lay-in-Third.ensures.err

pub returns-in-Third-clause-refused : goal.returns-in-Third-clause-refused
returns-in-Third-clause-refused g c = rw c.in-Third.is c.lay-in-Third.ensures.faults

pub returns-in-Fourth-clause-others : goal.returns-in-Fourth-clause-others
returns-in-Fourth-clause-others g c =
    let s = four_of c.args.seats.now in
    let same : Order ≡ c.args.pass = own_pass c.args.pass s c.args.step.now Order (ap pass_for c.in-Fourth.is) c.requires in
    subst (λ (q : Which). OthersStay q s (record s { order = c.lay-in-Fourth.new.seat })) same refl

pub returns-in-Fourth-clause-does : goal.returns-in-Fourth-clause-does
returns-in-Fourth-clause-does g c =
    let s = four_of c.args.seats.now in
    let t : Fours = record s { order = c.lay-in-Fourth.new.seat } in
    let x = arc_value c.in-Fourth.offer in
    let same : Order ≡ c.args.pass = own_pass c.args.pass s c.args.step.now Order (ap pass_for c.in-Fourth.is) c.requires in
    ok_both c.lay-in-Fourth.result (PutsOffer x s.order t.order) (IsOneRoom s.order t.order) (DoesIn c.args.step.now (seat_of s c.args.pass) (seat_of t c.args.pass))
    (λ puts room.
    subst (λ (q : Which). DoesIn c.args.step.now (seat_of s q) (seat_of t q)) same
    (subst (λ (y : Step). DoesIn y (InOrder s.order) (InOrder t.order)) (sym c.in-Fourth.is) (puts, room)))
    c.lay-in-Fourth.ensures.ok c.lay-in-Fourth.ensures.room

pub returns-in-Fourth-clause-err : goal.returns-in-Fourth-clause-err
returns-in-Fourth-clause-err g c =
    let s = four_of c.args.seats.now in
    err_map c.lay-in-Fourth.result (c.lay-in-Fourth.new.seat ≡ s.order) (record s { order = c.lay-in-Fourth.new.seat } ≡ s)
    (λ e. ap (λ u. record s { order = u }) e) c.lay-in-Fourth.ensures.err

pub returns-in-Fourth-clause-refused : goal.returns-in-Fourth-clause-refused
returns-in-Fourth-clause-refused g c = rw c.in-Fourth.is c.lay-in-Fourth.ensures.faults

pub lay-requires-in-Third-send-P-Out-Fun : goal.lay-requires-in-Third-send-P-Out-Fun
lay-requires-in-Third-send-P-Out-Fun g c κs = search (function_send, sendable) depth 40

pub lay-requires-in-Third-sync-P-Out-Fun : goal.lay-requires-in-Third-sync-P-Out-Fun
lay-requires-in-Third-sync-P-Out-Fun g c κs = search (function_sync, sendable) depth 40

pub lay-requires-in-Fourth-send-P-In-Fun : goal.lay-requires-in-Fourth-send-P-In-Fun
lay-requires-in-Fourth-send-P-In-Fun g c κs = search (function_send, sendable) depth 40

pub lay-requires-in-Fourth-sync-P-In-Fun : goal.lay-requires-in-Fourth-sync-P-In-Fun
lay-requires-in-Fourth-sync-P-In-Fun g c κs = search (function_sync, sendable) depth 40
