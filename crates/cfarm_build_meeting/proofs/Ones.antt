-- Whether the rooms of two nodes are one does not change as they meet others.
use Rattle.std.proofs.Common.{ℕ, List, length, refl, sym, ◌∙◌, arith}
use Rattle.std.proofs.lemmas.Option.{slice_get_within}
use Rattle.rooms_hall.specs.declared.hall.Naming as naming
use Rattle.farm_nodes_meet_seats.specs.Functions.{AreOne}
use Rattle.farm_nodes_meet_seats.specs.Held.{held_of}
use Rattle.farm_nodes_meet_seats.specs.Lists.{IsOneAt}
use Rattle.farm_nodes_turn_node.specs.NumberedSeat.{NumberedSeat}
use Rattle.farm_nodes_turn_node.specs.SeatValue.{IsOneRoom, SeatValue}
use Rattle.farm_nodes_meet_seats.proofs.Places.{all_link}
use Rattle.farm_nodes_turn_node.proofs.Places.{found}
use Rattle.cfarm_build_result.specs.Alike.{HaveCounted}
use Rattle.cfarm_build_result.specs.Going.{FunctionGoesOn, SeatsGoOn}

module _ {T : Type 0} (a b a' b' : SeatValue T) (first : IsOneRoom a' a) (second : IsOneRoom b' b) where
  room_still : IsOneRoom a b → IsOneRoom a' b'
  room_still one = record { table = first.table ∙ (one.table ∙ sym second.table); cells = first.cells ∙ (one.cells ∙ sym second.cells) }

  room_before : IsOneRoom a' b' → IsOneRoom a b
  room_before one = record { table = sym first.table ∙ (one.table ∙ second.table); cells = sym first.cells ∙ (one.cells ∙ second.cells) }

module _ {H : Type 0} {h : naming.Ghosts H} where
  module _ (a b a' b' : NumberedSeat H h) (first : FunctionGoesOn a a') (second : FunctionGoesOn b b') where
    function_still : AreOne (held_of a) (held_of b) → AreOne (held_of a') (held_of b')
    function_still one = record {
      constants = room_still a.seat.first b.seat.first a'.seat.first b'.seat.first first.constants.room second.constants.room one.constants;
      expressions = room_still a.seat.second b.seat.second a'.seat.second b'.seat.second first.expressions.room second.expressions.room one.expressions;
      allocation = room_still a.seat.third b.seat.third a'.seat.third b'.seat.third first.allocation.room second.allocation.room one.allocation;
      order = room_still a.seat.fourth b.seat.fourth a'.seat.fourth b'.seat.fourth first.order.room second.order.room one.order;
    }

    function_before : AreOne (held_of a') (held_of b') → AreOne (held_of a) (held_of b)
    function_before one = record {
      constants = room_before a.seat.first b.seat.first a'.seat.first b'.seat.first first.constants.room second.constants.room one.constants;
      expressions = room_before a.seat.second b.seat.second a'.seat.second b'.seat.second first.expressions.room second.expressions.room one.expressions;
      allocation = room_before a.seat.third b.seat.third a'.seat.third b'.seat.third first.allocation.room second.allocation.room one.allocation;
      order = room_before a.seat.fourth b.seat.fourth a'.seat.fourth b'.seat.fourth first.order.room second.order.room one.order;
    }

  module _ (xs ys xs' ys' : List (NumberedSeat H h)) (first : SeatsGoOn xs xs') (second : SeatsGoOn ys ys') where
    pub seats_still : ((k : ℕ) → IsOneAt held_of xs ys k) → (k : ℕ) → IsOneAt held_of xs' ys' k
    seats_still one k a' b' ea eb =
        let low = slice_get_within xs' k a' ea in
        let high = slice_get_within ys' k b' eb in
        let a = found xs k (omega (arith, low, first.count)) in
        let b = found ys k (omega (arith, high, second.count)) in
        function_still a.0 b.0 a' b' (first.each k a.0 a' a.1 ea) (second.each k b.0 b' b.1 eb) (one k a.0 b.0 a.1 b.1)

    pub seats_before : ((k : ℕ) → IsOneAt held_of xs' ys' k) → (k : ℕ) → IsOneAt held_of xs ys k
    seats_before one k a b ea eb =
        let low = slice_get_within xs k a ea in
        let high = slice_get_within ys k b eb in
        let a' = found xs' k (omega (arith, low, first.count)) in
        let b' = found ys' k (omega (arith, high, second.count)) in
        function_before a b a'.0 b'.0 (first.each k a a'.0 ea a'.1) (second.each k b b'.0 eb b'.1) (one k a'.0 b'.0 a'.1 b'.1)

  -- where all functions of two nodes were counted, their rooms are one
  pub counted_one : (xs ys : List (NumberedSeat H h)) → HaveCounted xs ys → (k : ℕ) → IsOneAt held_of xs ys k
  counted_one xs ys has = seats_still has.first has.second xs ys has.first_on has.second_on (λ k a b ea eb.
      let counted = has.counted in
      let low = slice_get_within has.first k a ea in
      let long = (counted.met.met counted.alike).first in
      let link = all_link held_of counted.first counted.second has.first has.second (length counted.first) counted.met counted.alike refl k (omega (arith, low, long)) a b ea eb in
      record { constants = link.constants.room; expressions = link.expressions.room; allocation = link.allocation.room; order = link.order.room })
