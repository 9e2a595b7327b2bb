-- The rooms of a function open from what the nodes have kept of them.
use Rattle.std.proofs.Common.{ℕ, List, length, refl, ap, subst, ◌∙◌}
use Rattle.std.specs.Global.{Vec}
use Rattle.std.proofs.lemmas.List.{length-map}
use Rattle.paxos_core_world.specs.KeptPart.{KeptPart}
use Rattle.farm_nodes_turn_passes.specs.Opened.{kept_of_pass}
use Rattle.farm_nodes_turn_passes.specs.Opened as by_pass
use Rattle.farm_nodes_turn_passes.specs.Numbers.{room_at}
use Rattle.farm_nodes_turn_passes.specs.declared.which.Which.TheVariants.{Constants, Expressions, Allocation, Order}
use Rattle.farm_nodes_open_lists.specs.Rows.{offers_of, rows_of}
use Rattle.farm_nodes_open_numbers.specs.Kept.{four_kept, kept_of}
use Rattle.farm_nodes_open_numbers.specs.Numbered.{AreOfOneFunction}
use Rattle.farm_nodes_open_numbers.proofs.OneRoom.{offers_as_given}
use Rattle.farm_nodes_open_rooms.proofs.Dealt.{all_one, open_function_is, some_of_all}
use Rattle.farm_nodes_open_rooms.proofs.Outcomes.{kept_first, kept_second, kept_third, kept_fourth, settled_all, told_pass}
use Rattle.farm_nodes_open_rooms.proofs.function.open_function.Goals as goal

pub open-requires : goal.open-requires
open-requires g c =
    let nodes = c.args.kept.now in
    let f = c.args.function in
    let offers = c.args.offers.now in
    let here = c.in-Ok-offers_for.here in
    let are = c.in-Ok-offers_for.ensures.here in
    let is = c.as_slice.ensures.value ∙ c.in-Ok.ensures in
    record {
      size = ap length is ∙ length-map nodes (λ (node : Vec KeptPart). four_kept node.items f) ∙ c.requires.size;
      first = offers_as_given (kept_of nodes (room_at f Constants)) _ (offers_of (rows_of offers.constants.items) f) here.first.items (ap (λ (ps : List (List KeptPart)). kept_of_pass 0 ps) is ∙ kept_first nodes f) are.constants c.requires.offers1;
      second = offers_as_given (kept_of nodes (room_at f Expressions)) _ (offers_of (rows_of offers.expressions.items) f) here.second.items (ap (λ (ps : List (List KeptPart)). kept_of_pass 1 ps) is ∙ kept_second nodes f) are.expressions c.requires.offers2;
      third = offers_as_given (kept_of nodes (room_at f Allocation)) _ (offers_of (rows_of offers.allocation.items) f) here.third.items (ap (λ (ps : List (List KeptPart)). kept_of_pass 2 ps) is ∙ kept_third nodes f) are.allocation c.requires.offers3;
      fourth = offers_as_given (kept_of nodes (room_at f Order)) _ (offers_of (rows_of offers.order.items) f) here.fourth.items (ap (λ (ps : List (List KeptPart)). kept_of_pass 3 ps) is ∙ kept_fourth nodes f) are.order c.requires.offers4;
    }

pub numbered-requires : goal.numbered-requires
numbered-requires g c =
    record {
      some = some_of_all c.number-number.result c.args.quorums c.as_slice.result.now c.in-Ok-offers_for.here c.in-Ok-open.seats.items c.in-Ok-open.ensures.ok c.nodes-nodes.ensures.sizes;
      rooms =
          subst (λ (n : ℕ). AreOfOneFunction n c.in-Ok-open.seats.items) c.number-number.ensures
          (all_one c.number-number.result c.args.quorums c.as_slice.result.now c.in-Ok-offers_for.here c.in-Ok-open.seats.items c.in-Ok-open.ensures.ok);
    }

pub returns-in-Ok-numbered-clause-opened : goal.returns-in-Ok-numbered-clause-opened
returns-in-Ok-numbered-clause-opened g c =
    let is = c.as_slice.ensures.value ∙ c.in-Ok.ensures in
    open_function_is c.number-number.result c.args.quorums c.args.kept.now c.args.function c.args.offers.now c.as_slice.result.now c.in-Ok-offers_for.here c.in-Ok-open.seats.items c.in-Ok-numbered.nodes.items
    is c.in-Ok-offers_for.ensures.here c.in-Ok-open.ensures.ok c.in-Ok-numbered.ensures.seats c.in-Ok-numbered.ensures.one
    (settled_all c.args.kept.now c.args.function c.args.quorums (subst (λ (ps : List (List KeptPart)). by_pass.AreSettled c.args.quorums ps) is c.in-Ok-open.ensures.settled))
    c.requires.size

pub returns-in-Err-open-clause-told : goal.returns-in-Err-open-clause-told
returns-in-Err-open-clause-told g c =
    let nodes = c.args.kept.now in
    let f = c.args.function in
    let offers = c.args.offers.now in
    let here = c.in-Ok-offers_for.here in
    let are = c.in-Ok-offers_for.ensures.here in
    let is = c.as_slice.ensures.value ∙ c.in-Ok.ensures in
    let e = c.in-Err-open.unopened in
    told_pass nodes f c.args.quorums here c.told.result.room c.told.result.fault e.error c.told.ensures.fault
    (offers_as_given (kept_of nodes (room_at f Constants)) (kept_of nodes (room_at f Constants)) (offers_of (rows_of offers.constants.items) f) here.first.items refl are.constants c.requires.offers1)
    (offers_as_given (kept_of nodes (room_at f Expressions)) (kept_of nodes (room_at f Expressions)) (offers_of (rows_of offers.expressions.items) f) here.second.items refl are.expressions c.requires.offers2)
    (offers_as_given (kept_of nodes (room_at f Allocation)) (kept_of nodes (room_at f Allocation)) (offers_of (rows_of offers.allocation.items) f) here.third.items refl are.allocation c.requires.offers3)
    (offers_as_given (kept_of nodes (room_at f Order)) (kept_of nodes (room_at f Order)) (offers_of (rows_of offers.order.items) f) here.fourth.items refl are.order c.requires.offers4)
    e.pass (subst (λ (ps : List (List KeptPart)). by_pass.IsUnopened c.args.quorums ps here e.pass e.error) is c.in-Err-open.ensures.told) c.told.ensures.room
