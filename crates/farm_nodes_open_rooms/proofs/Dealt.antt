-- What is dealt out in the rooms of a function are the seats of each room as it opens.
use Rattle.std.proofs.Common.{◌≡◌, ℕ, ◌<◌, List, length, map, Option, refl, sym, ap, subst, ◌∙◌}
use Rattle.std.specs.Global.{Vec}
use Rattle.std.proofs.lemmas.List.{length-map}
use Rattle.paxos_core_world.specs.KeptPart.{KeptPart}
use Rattle.paxos_core_world.specs.Quorum.{AreQuorums, Sizes}
use Rattle.rooms_hall.specs.declared.hall.Naming as naming
use Rattle.rooms_table.specs.RoomAt.{RoomAt}
use Rattle.farm_nodes_open_numbers.specs.SeatState.{opening_of}
use Rattle.rooms.specs.Opened.{AreDealt, AreOpened}
use Rattle.rooms.specs.SeatValue.{SeatValue}
use Rattle.farm_nodes_turn_passes.specs.Opened.{kept_of_pass, AreSeatsOf}
use Rattle.farm_nodes_turn_passes.specs.FunctionOffers.{FunctionOffers}
use Rattle.farm_nodes_turn_passes.specs.FunctionSeat.{FunctionSeat}
use Rattle.farm_nodes_turn_passes.specs.NumberedSeat.{NumberedSeat}
use Rattle.farm_nodes_turn_passes.specs.Numbers.{room_at}
use Rattle.farm_nodes_turn_passes.specs.declared.which.Which.TheVariants.{Constants, Expressions, Allocation, Order}
use Rattle.farm_nodes_open_lists.specs.Rows.{offers_of, rows_of}
use Rattle.farm_nodes_open_numbers.specs.Kept.{kept_of, parts_of, AreSettled}
use Rattle.farm_nodes_open_numbers.specs.Numbered.{AreOfOneFunction, HaveOneClaim, IsOpenedRoom}
use Rattle.farm_nodes_open_numbers.proofs.OneRoom.{as_given, as_many, map-map, one_function, one_room, opened_pairs, some_seat}
use Rattle.farm_nodes_open_rooms.specs.Function.{Offered, AreHere, IsOpenFunction}
use Rattle.farm_nodes_open_rooms.proofs.Outcomes.{kept_first, kept_second, kept_third, kept_fourth}

abbrev pub as_opened : {T : Type 0} (table : RoomAt) (q : Sizes) (kept : List KeptPart) (offers : List (Option T)) (seats : List (SeatValue T)) → AreDealt table (opening_of q kept) offers seats → AreOpened q kept offers seats
as_opened table q kept offers seats d = record { table = table; cells = d.cells; size = d.size; seats_are = d.seats_are }

module _ (number : ℕ) (q : Sizes) (kept : List (List KeptPart)) (offers : FunctionOffers) (seats : List FunctionSeat) (are : AreSeatsOf number q kept offers seats) where
  abbrev first_opened : AreOpened q (kept_of_pass 0 kept) offers.first.items (map (λ s. s.first) seats)
  first_opened = as_opened _ q (kept_of_pass 0 kept) offers.first.items (map (λ s. s.first) seats) are.first

  abbrev second_opened : AreOpened q (kept_of_pass 1 kept) offers.second.items (map (λ s. s.second) seats)
  second_opened = as_opened _ q (kept_of_pass 1 kept) offers.second.items (map (λ s. s.second) seats) are.second

  abbrev third_opened : AreOpened q (kept_of_pass 2 kept) offers.third.items (map (λ s. s.third) seats)
  third_opened = as_opened _ q (kept_of_pass 2 kept) offers.third.items (map (λ s. s.third) seats) are.third

  abbrev fourth_opened : AreOpened q (kept_of_pass 3 kept) offers.fourth.items (map (λ s. s.fourth) seats)
  fourth_opened = as_opened _ q (kept_of_pass 3 kept) offers.fourth.items (map (λ s. s.fourth) seats) are.fourth

  -- they are all of one function
  pub all_one : AreOfOneFunction number seats
  all_one =
      one_function number first_opened.table second_opened.table third_opened.table fourth_opened.table first_opened.cells second_opened.cells third_opened.cells fourth_opened.cells seats
      (one_room q (kept_of_pass 0 kept) offers.first.items (map (λ s. s.first) seats) first_opened)
      (one_room q (kept_of_pass 1 kept) offers.second.items (map (λ s. s.second) seats) second_opened)
      (one_room q (kept_of_pass 2 kept) offers.third.items (map (λ s. s.third) seats) third_opened)
      (one_room q (kept_of_pass 3 kept) offers.fourth.items (map (λ s. s.fourth) seats) fourth_opened)
      (refl, (refl, (refl, (refl, tt))))

  -- as many as the nodes
  pub all_count : length seats ≡ q.nodes
  all_count = sym (length-map seats (λ s. s.first)) ∙ as_many q (kept_of_pass 0 kept) offers.first.items (map (λ s. s.first) seats) first_opened

  pub some_of_all : AreQuorums q → 0 < length seats
  some_of_all sizes =
      subst (λ (n : ℕ). 0 < n) (length-map seats (λ s. s.first))
      (some_seat q (kept_of_pass 0 kept) offers.first.items (map (λ s. s.first) seats) first_opened sizes)

-- with the number of the function
module _ {H : Type 0} {h : naming.Ghosts H} where
  numbered_room : {T : Type 0} (table : RoomAt) (q : Sizes) (kept given : List KeptPart) (offers here : List (Option T)) (seat : FunctionSeat → SeatValue T) (nodes : List (NumberedSeat H h)) (seats : List FunctionSeat)
      → given ≡ kept → here ≡ offers → map (λ n. n.seat) nodes ≡ seats → HaveOneClaim (map (λ n. n.claim) nodes) → AreDealt table (opening_of q given) here (map seat seats)
      → IsOpenedRoom q kept offers (map (λ n. (seat n.seat, n.claim)) nodes)
  numbered_room table q kept given offers here seat nodes seats eg eh en one d =
      as_given q kept given offers here (map (λ n. (seat n.seat, n.claim)) nodes) eg eh
      (opened_pairs q given here (λ (n : NumberedSeat H h). seat n.seat) (λ (n : NumberedSeat H h). n.claim) nodes (map seat seats)
      (sym (map-map seat (λ (n : NumberedSeat H h). n.seat) nodes) ∙ ap (λ ss. map seat ss) en) one (as_opened table q given here (map seat seats) d))

  pub open_function_is : (number : ℕ) (q : Sizes) (kept : List (Vec KeptPart)) (f : ℕ) (offers : Offered) (parts : List (List KeptPart)) (here : FunctionOffers) (seats : List FunctionSeat) (nodes : List (NumberedSeat H h))
      → parts ≡ parts_of kept f → AreHere f offers here → AreSeatsOf number q parts here seats → map (λ n. n.seat) nodes ≡ seats → HaveOneClaim (map (λ n. n.claim) nodes) → AreSettled q kept f
      → length kept ≡ q.nodes → IsOpenFunction q kept f offers nodes
  open_function_is number q kept f offers parts here seats nodes ep are is en one settled size =
      record {
        constants = numbered_room _ q (kept_of kept (room_at f Constants)) (kept_of_pass 0 parts) (offers_of (rows_of offers.constants.items) f) here.first.items (λ s. s.first) nodes seats (ap (λ ps. kept_of_pass 0 ps) ep ∙ kept_first kept f) are.constants en one is.first;
        expressions = numbered_room _ q (kept_of kept (room_at f Expressions)) (kept_of_pass 1 parts) (offers_of (rows_of offers.expressions.items) f) here.second.items (λ s. s.second) nodes seats (ap (λ ps. kept_of_pass 1 ps) ep ∙ kept_second kept f) are.expressions en one is.second;
        allocation = numbered_room _ q (kept_of kept (room_at f Allocation)) (kept_of_pass 2 parts) (offers_of (rows_of offers.allocation.items) f) here.third.items (λ s. s.third) nodes seats (ap (λ ps. kept_of_pass 2 ps) ep ∙ kept_third kept f) are.allocation en one is.third;
        order = numbered_room _ q (kept_of kept (room_at f Order)) (kept_of_pass 3 parts) (offers_of (rows_of offers.order.items) f) here.fourth.items (λ s. s.fourth) nodes seats (ap (λ ps. kept_of_pass 3 ps) ep ∙ kept_fourth kept f) are.order en one is.fourth;
        count = sym (length-map nodes (λ n. n.seat)) ∙ (ap length en ∙ (all_count number q parts here seats is ∙ sym size));
        settled = settled;
      }
