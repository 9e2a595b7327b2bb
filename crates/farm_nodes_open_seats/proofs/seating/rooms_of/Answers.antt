-- The rooms open from what was read, and what is refused is told.
use Rattle.std.proofs.Common.{◌≡◌, ℕ, ◌<◌, List, length, sym, ap, subst, ◌∙◌, arith}
use Rattle.std.specs.Global.{Vec}
use Rattle.std.proofs.lemmas.List.{length-map}
use Rattle.rtl_language.specs.contracts.language.RtlLanguage.TheImpl as rtl_language
use Rattle.ltl.specs.contracts.language.LtlLanguage.TheImpl as ltl_language
use Rattle.linear_language.specs.contracts.language.LinearLanguage.TheImpl as linear_language
use Rattle.constprop_check.specs.contracts.pass.ConstPropPass.TheImpl as constants
use Rattle.farm_nodes_open_stored.specs.CsePass.TheImpl as expressions
use Rattle.farm_nodes_open_stored.specs.AllocPass.TheImpl as allocation
use Rattle.farm_nodes_open_stored.specs.LinearizePass.TheImpl as order
use Rattle.paxos_core_world.specs.KeptPart.{KeptPart}
use Rattle.farm_nodes_open_rooms.specs.Which.TheVariants.{Constants, Expressions, Allocation, Order}
use Rattle.farm_nodes_open_lists.specs.Rows.{rows_of}
use Rattle.farm_nodes_open_rooms.specs.Kept.{AreSettled, IsOfferedIn, IsSettledIn}
use Rattle.farm_nodes_open_rooms.specs.Left.{AreLeftIn}
use Rattle.farm_nodes_open_rooms.specs.Opened.{AreOfferedIn, AreOpenedIn, IsSettledBefore}
use Rattle.farm_nodes_open_seats.specs.Refused.{HasBadRecord, HasRefusedOffer}
use Rattle.farm_nodes_open_seats.specs.Seated.{constants_seat, expressions_seat, allocation_seat, order_seat}
use Rattle.farm_nodes_open_seats.proofs.Offered.{accepted_all, offered_in}
use Rattle.farm_nodes_open_seats.proofs.Told.{records_bad, records_refused, records_no_room, rooms_fault, room_no_journal, room_no_refusal}
use Rattle.farm_nodes_open_seats.proofs.seating.rooms_of.Goals as goal

pub open_functions-requires-clause-size : goal.open_functions-requires-clause-size
open_functions-requires-clause-size g c =
    ap length c.as_slice.ensures.value ∙ c.in-Ok.ensures.kept.count ∙ c.requires.size

pub open_functions-requires-clause-offers1 : goal.open_functions-requires-clause-offers1
open_functions-requires-clause-offers1 g c =
    let offers = c.in-Ok.found.1.constants.items in
    subst (λ (kept : List (Vec KeptPart)). AreOfferedIn kept Constants c.args.functions (rows_of offers)) (sym c.as_slice.ensures.value)
    (offered_in rtl_language.ghosts rtl_language.ghosts constants.ghosts Constants c.args.functions c.known_is_kept.ensures c.args.journals.now c.in-Ok.found.0.items offers c.in-Ok.ensures.kept c.in-Ok.ensures.offers.constants)

pub open_functions-requires-clause-offers2 : goal.open_functions-requires-clause-offers2
open_functions-requires-clause-offers2 g c =
    let offers = c.in-Ok.found.1.expressions.items in
    subst (λ (kept : List (Vec KeptPart)). AreOfferedIn kept Expressions c.args.functions (rows_of offers)) (sym c.as_slice.ensures.value)
    (offered_in rtl_language.ghosts rtl_language.ghosts expressions.ghosts Expressions c.args.functions c.known_is_kept-2.ensures c.args.journals.now c.in-Ok.found.0.items offers c.in-Ok.ensures.kept c.in-Ok.ensures.offers.expressions)

pub open_functions-requires-clause-offers3 : goal.open_functions-requires-clause-offers3
open_functions-requires-clause-offers3 g c =
    let offers = c.in-Ok.found.1.allocation.items in
    subst (λ (kept : List (Vec KeptPart)). AreOfferedIn kept Allocation c.args.functions (rows_of offers)) (sym c.as_slice.ensures.value)
    (offered_in rtl_language.ghosts ltl_language.ghosts allocation.ghosts Allocation c.args.functions c.known_is_kept-3.ensures c.args.journals.now c.in-Ok.found.0.items offers c.in-Ok.ensures.kept c.in-Ok.ensures.offers.allocation)

pub open_functions-requires-clause-offers4 : goal.open_functions-requires-clause-offers4
open_functions-requires-clause-offers4 g c =
    let offers = c.in-Ok.found.1.order.items in
    subst (λ (kept : List (Vec KeptPart)). AreOfferedIn kept Order c.args.functions (rows_of offers)) (sym c.as_slice.ensures.value)
    (offered_in ltl_language.ghosts linear_language.ghosts order.ghosts Order c.args.functions c.known_is_kept-4.ensures c.args.journals.now c.in-Ok.found.0.items offers c.in-Ok.ensures.kept c.in-Ok.ensures.offers.order)

pub returns-in-Err-clause-bad : goal.returns-in-Err-clause-bad
returns-in-Err-clause-bad g c node fault told =
    let e = c.in-Err.ensures in
    let is = records_bad c.in-Err.bad.node c.in-Err.bad.fault node fault (sym c.of_records.ensures ∙ told) in
    (is.2, subst (λ (n : ℕ). HasBadRecord c.args.functions c.args.journals.now n) is.1 (record { at = e.bad is.0; front = e.in_front }))

pub returns-in-Err-clause-refused : goal.returns-in-Err-clause-refused
returns-in-Err-clause-refused g c node told =
    let e = c.in-Err.ensures in
    let is = records_refused c.in-Err.bad.node c.in-Err.bad.fault node (sym c.of_records.ensures ∙ told) in
    subst (λ (n : ℕ). HasRefusedOffer c.args.functions c.args.journals.now n) is.1 (record { at = e.refused is.0; front = e.accepted is.0; read = e.all_read is.0 })

pub returns-in-Err-clause-unopened : goal.returns-in-Err-clause-unopened
returns-in-Err-clause-unopened g c room fault told = absurd (records_no_room c.in-Err.bad.node c.in-Err.bad.fault room fault (sym c.of_records.ensures ∙ told))

pub returns-in-Err-open_functions-clause-bad : goal.returns-in-Err-open_functions-clause-bad
returns-in-Err-open_functions-clause-bad g c node fault told =
    absurd (room_no_journal c.in-Err-open_functions.unopened.room c.in-Err-open_functions.unopened.fault node fault (sym c.of_room.ensures ∙ told))

pub returns-in-Err-open_functions-clause-refused : goal.returns-in-Err-open_functions-clause-refused
returns-in-Err-open_functions-clause-refused g c node told =
    absurd (room_no_refusal c.in-Err-open_functions.unopened.room c.in-Err-open_functions.unopened.fault node (sym c.of_room.ensures ∙ told))

pub returns-in-Err-open_functions-clause-unopened : goal.returns-in-Err-open_functions-clause-unopened
returns-in-Err-open_functions-clause-unopened g c room fault told =
    let u = c.in-Err-open_functions.unopened in
    let e = c.in-Err-open_functions.ensures in
    let is = rooms_fault u.room u.fault room fault (sym c.of_room.ensures ∙ told) in
    record {
      kept = c.in-Ok.found.0.items;
      are_kept = c.in-Ok.ensures.kept;
      accepted = accepted_all c.args.functions c.args.journals.now c.in-Ok.found.1 c.in-Ok.ensures.offers;
      within = omega (arith, is.0, e.room is.2);
      before = subst (λ (n : ℕ). IsSettledBefore c.args.quorums c.in-Ok.found.0.items n) is.0 (subst (λ (kept : List (Vec KeptPart)). IsSettledBefore c.args.quorums kept u.room) c.as_slice.ensures.value e.before);
      unsettled = λ unsettled. subst (λ (n : ℕ). IsSettledIn c.args.quorums c.in-Ok.found.0.items n → ⊥) is.0 (subst (λ (kept : List (Vec KeptPart)). IsSettledIn c.args.quorums kept u.room → ⊥) c.as_slice.ensures.value (e.unsettled (is.1 ∙ unsettled)));
      left = λ are same. e.left (subst (λ (kept : List (Vec KeptPart)). AreLeftIn c.args.quorums kept c.args.functions) (sym c.as_slice.ensures.value) are) (is.1 ∙ same);
      refused = λ refused. subst (λ (n : ℕ). IsOfferedIn c.in-Ok.found.0.items n) is.0 (subst (λ (kept : List (Vec KeptPart)). IsOfferedIn kept u.room) c.as_slice.ensures.value (e.refused (is.1 ∙ refused)));
    }

pub returns-in-Ok-open_functions-clause-settled : goal.returns-in-Ok-open_functions-clause-settled
returns-in-Ok-open_functions-clause-settled g c =
    subst (λ (kept : List (Vec KeptPart)). (f : ℕ) → f < c.args.functions → AreSettled c.args.quorums kept f) c.as_slice.ensures.value c.in-Ok-open_functions.ensures.settled

pub returns-in-Ok-open_functions-clause-seated : goal.returns-in-Ok-open_functions-clause-seated
returns-in-Ok-open_functions-clause-seated g c =
    let e = c.in-Ok-open_functions.ensures in
    let read = c.in-Ok.ensures in
    let found = c.in-Ok.found.1 in
    let seats = c.in-Ok-open_functions.seats.items in
    record {
      count = length-map seats _ ∙ e.count ∙ ap length c.as_slice.ensures.value ∙ read.kept.count;
      long = e.functions;
      kept = c.in-Ok.found.0.items;
      are_kept = read.kept;
      settled = subst (λ (kept : List (Vec KeptPart)). (f : ℕ) → f < c.args.functions → AreSettled c.args.quorums kept f) c.as_slice.ensures.value e.settled;
      constants = record {
        offers = found.constants.items;
        are_offers = read.offers.constants;
        opened = subst (λ (kept : List (Vec KeptPart)). AreOpenedIn c.args.quorums kept Constants c.args.functions (rows_of found.constants.items) constants_seat (rows_of seats)) c.as_slice.ensures.value e.constants;
      };
      expressions = record {
        offers = found.expressions.items;
        are_offers = read.offers.expressions;
        opened = subst (λ (kept : List (Vec KeptPart)). AreOpenedIn c.args.quorums kept Expressions c.args.functions (rows_of found.expressions.items) expressions_seat (rows_of seats)) c.as_slice.ensures.value e.expressions;
      };
      allocation = record {
        offers = found.allocation.items;
        are_offers = read.offers.allocation;
        opened = subst (λ (kept : List (Vec KeptPart)). AreOpenedIn c.args.quorums kept Allocation c.args.functions (rows_of found.allocation.items) allocation_seat (rows_of seats)) c.as_slice.ensures.value e.allocation;
      };
      order = record {
        offers = found.order.items;
        are_offers = read.offers.order;
        opened = subst (λ (kept : List (Vec KeptPart)). AreOpenedIn c.args.quorums kept Order c.args.functions (rows_of found.order.items) order_seat (rows_of seats)) c.as_slice.ensures.value e.order;
      };
    }
