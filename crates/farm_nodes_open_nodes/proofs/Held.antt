-- The seats that open from what a node's records leave keep just that, and have no ballot under way.
use Rattle.std.proofs.Common.{◌≡◌, ℕ, zero, suc, true, ◌+◌, ◌*◌, ◌/◌, ◌%◌, ◌<◌, ◌≤◌, List, length, All, Option, Some, None, refl, sym, ap, subst, ◌∙◌, arith}
use Rattle.std.specs.Prelude.{slice_get}
use Rattle.std.specs.Global.{Vec}
use Rattle.std.proofs.lemmas.List.{length-map}
use Rattle.std.proofs.lemmas.Option.{slice_get_within, get_or_from_slice_get}
use Rattle.durable_model.specs.declared.disk.Disk as disks
use Rattle.durable_pair.specs.declared.pair.Pair as pairs
use Rattle.paxos_core_world.specs.KeptPart.{KeptPart, nothing_kept}
use Rattle.paxos_core_node_steps.specs.NodeState.{node_with}
use Rattle.paxos_core_world.specs.Quorum.{AreQuorums, Sizes}
use Rattle.acceptor_log_form.specs.Leaves.{kept_by_record, kept_in}
use Rattle.acceptor_log_form.specs.Order.{AreInOrder}
use Rattle.acceptor_log_form.specs.declared.header.Header.{Header}
use Rattle.acceptor_log_form.specs.declared.record.Record.{Record}
use Rattle.acceptor_log.specs.Acknowledged.{acknowledged}
use Rattle.acceptor_log.specs.declared.log.Log.{Log}
use Rattle.farm_nodes_open_lists.specs.SeatValue.{SeatValue, offer_of}
use Rattle.offers.specs.declared.parts.Parts.{Parts}
use Rattle.lang_base.specs.declared.language.Language as language
use Rattle.lang_base.specs.declared.pass.Pass as pass
use Rattle.rtl_language.specs.contracts.language.RtlLanguage.TheImpl as rtl_language
use Rattle.ltl.specs.contracts.language.LtlLanguage.TheImpl as ltl_language
use Rattle.linear_language.specs.contracts.language.LinearLanguage.TheImpl as linear_language
use Rattle.constprop_check.specs.contracts.pass.ConstPropPass.TheImpl as constants
use Rattle.farm_nodes_open_seats.specs.CsePass.TheImpl as expressions
use Rattle.farm_nodes_open_seats.specs.AllocPass.TheImpl as allocation
use Rattle.farm_nodes_open_seats.specs.LinearizePass.TheImpl as order
use Rattle.rooms_hall.specs.Claimed.{Claimed}
use Rattle.rooms_hall.specs.declared.hall.Naming as naming
use Rattle.farm_nodes_open_join.specs.JournalAdvances.{AreOf}
use Rattle.farm_nodes_open_join.proofs.Rooms.{none_of_others, of_rooms}
use Rattle.farm_nodes_open_seats.specs.Fours.{Four, four_of, fours_of, words_of}
use Rattle.farm_nodes_open_seats.specs.Leaves.{Leave}
use Rattle.farm_nodes_open_seats.specs.Texts.{pass_texts, IsOwnTextIn}
use Rattle.farm_nodes_open_seats.specs.Told.{IsOwnText, IsToldAs}
use Rattle.farm_nodes_open_seats.specs.FarmNodesTurnOfferPending.{IsOfferText}
use Rattle.farm_nodes_open_seats.specs.Written.{last_offer_in}
use Rattle.farm_nodes_open_seats.specs.Numbers.{function_of, pass_at, pass_of, place_of, room_at}
use Rattle.farm_nodes_open_seats.specs.Offers.{ConstantsOffer, ExpressionsOffer, AllocationOffer, OrderOffer}
use Rattle.farm_nodes_open_seats.specs.NumberedSeat.{NumberedSeat}
use Rattle.farm_nodes_open_seats.specs.Which.{Which}
use Rattle.farm_nodes_open_seats.specs.Which.TheVariants.{Constants, Expressions, Allocation, Order}
use Rattle.farm_nodes_open_lists.specs.Rows.{rows_of}
use Rattle.farm_nodes_open_seats.specs.Opened.{AreOpenedIn}
use Rattle.farm_nodes_open_seats.proofs.Seated.{seat_of_run, seat_offers, seat_opens}
use Rattle.farm_nodes_open_seats.proofs.Texts.{offer_told}
use Rattle.farm_nodes_open_journals.specs.Journals.{AreOpened, IsOpened, header_of}
use Rattle.farm_nodes_open_seats.specs.Read.{AreKept}
use Rattle.farm_nodes_open_join.specs.Held.{AreOfRuns, AreSeatsOf, AreUnproposed}
use Rattle.farm_nodes_open_seats.specs.OfRun.{IsOfRun}
use Rattle.farm_nodes_open_join.specs.Joined.{AreHeld, IsHeld}
use Rattle.farm_nodes_open_seats.specs.Seated.{AreSeated, AreSeatedIn, constants_seat, expressions_seat, allocation_seat, order_seat}
use Rattle.farm_nodes_open_seats.proofs.Lists.{all_at, at_map, found_at, map_at}
use Rattle.farm_nodes_open_seats.proofs.Offered.{offer_there, room_low}

place_is : (r : ℕ) → r < 4 → place_of (pass_at r) ≡ r
place_is zero low = refl
place_is (suc zero) low = refl
place_is (suc (suc zero)) low = refl
place_is (suc (suc (suc zero))) low = refl
place_is (suc (suc (suc (suc r)))) low = absurd (omega (arith, low))

room_is : (m : ℕ) → room_at (function_of m) (pass_of m) ≡ m
room_is m =
    let whole : 4 * (m / 4) + m % 4 ≡ m = omega arith in
    ap (λ p. 4 * (m / 4) + p) (place_is (m % 4) (omega arith)) ∙ whole

-- in the rooms of a pass
module _ {T N : Type 0} (q : Sizes) (kept : List (Vec KeptPart)) (which : Which) (functions : ℕ) (offers : List (List (Option T))) (show : N → SeatValue T × Claimed) (rows : List (List N))
    (sizes : AreQuorums q) (long : All (λ row. length row ≡ functions) rows) (opened : AreOpenedIn q kept which functions offers show rows) where
  seat_is : (count i f : ℕ) (row : List N) (x : N) (k : Vec KeptPart) (rs : List Record) → slice_get rows i ≡ Some row → slice_get row f ≡ Some x → slice_get kept i ≡ Some k → AreKept functions count i rs k.items → f < functions
      → (show x).0.words.node ≡ node_with i q (kept_in rs (room_at f which))
  seat_is count i f row x k rs at is its part below =
      seat_opens q kept which functions offers show rows sizes long opened i f row x at is k its
      ∙ ap (node_with i q) (get_or_from_slice_get k.items (room_at f which) (kept_in rs (room_at f which)) nothing_kept (part.each (room_at f which) (room_low functions f which below)))

-- the text of the offer that stands in a node's own cell of a pass
module _ {J P A B C I O N : Type 0} (from : language.Ghosts A I) (to : language.Ghosts B O) (by : pass.Ghosts P A B C I O) (which : Which) (q : Sizes) (functions : ℕ) (journals : List (J × Vec Record))
    (kept : List (Vec KeptPart)) (show : N → SeatValue (Parts I O C) × Claimed) (rows : List (List N)) (sizes : AreQuorums q) (long : All (λ row. length row ≡ functions) rows)
    (seated : AreSeatedIn from to by which q functions journals kept show rows) where
  owned : (i f : ℕ) (row : List N) (x : N) (j : J × Vec Record) → slice_get rows i ≡ Some row → slice_get row f ≡ Some x → slice_get journals i ≡ Some j → f < functions → (show x).0.words.node.me ≡ i
      → (kept_in j.1.items (room_at f which)).offered ≡ true → IsToldAs (IsOwnText (IsOfferText from to by) (show x).0) (last_offer_in j.1.items (room_at f which))
  owned i f row x j at is j_at below me offered =
      let o = found_at seated.offers i (omega (arith, slice_get_within journals i j j_at, seated.are_offers.count)) in
      let ours = seated.are_offers.each i j o.0 j_at o.1 in
      let y = found_at o.0.items f (omega (arith, below, ours.known.count)) in
      let told = offer_told from to by which functions f j.1.items o.0.items y.0 ours below y.1 offered in
      let seen : offer_of (show x).0 i ≡ Some told.2.0 =
      seat_offers q kept which functions (rows_of seated.offers) show rows sizes long seated.opened i f row x at is ∙ (offer_there seated.offers f i o.0 y.0 o.1 y.1 ∙ told.2.1) in
      (told.0, told.1, (told.2.0, ap (λ (k : ℕ). offer_of (show x).0 k) me ∙ seen, told.2.2))

module _ {J H : Type 0} {h : naming.Ghosts H} (q : Sizes) (functions : ℕ) (journals : List (J × Vec Record)) (rows : List (List (NumberedSeat H h))) (sizes : AreQuorums q) (seated : AreSeated q functions journals rows) where
  module _ (i : ℕ) (row : List (NumberedSeat H h)) (k : Vec KeptPart) (j : J × Vec Record) (at : slice_get rows i ≡ Some row) (k_at : slice_get seated.kept i ≡ Some k) (j_at : slice_get journals i ≡ Some j) where
    part : AreKept functions (length journals) i j.1.items k.items
    part = seated.are_kept.each i j k j_at k_at

    keeps : (pass : Which) (f : ℕ) (s : NumberedSeat H h) → f < functions → slice_get row f ≡ Some s → (words_of (four_of s) pass).node ≡ node_with i q (kept_in j.1.items (room_at f pass))
    keeps Constants f s below here =
        seat_is q seated.kept Constants functions (rows_of seated.constants.offers) (λ (x : NumberedSeat H h). constants_seat x) rows sizes seated.long seated.constants.opened (length journals) i f row s k j.1.items at here k_at part below
    keeps Expressions f s below here =
        seat_is q seated.kept Expressions functions (rows_of seated.expressions.offers) (λ (x : NumberedSeat H h). expressions_seat x) rows sizes seated.long seated.expressions.opened (length journals) i f row s k j.1.items at here k_at part below
    keeps Allocation f s below here =
        seat_is q seated.kept Allocation functions (rows_of seated.allocation.offers) (λ (x : NumberedSeat H h). allocation_seat x) rows sizes seated.long seated.allocation.opened (length journals) i f row s k j.1.items at here k_at part below
    keeps Order f s below here =
        seat_is q seated.kept Order functions (rows_of seated.order.offers) (λ (x : NumberedSeat H h). order_seat x) rows sizes seated.long seated.order.opened (length journals) i f row s k j.1.items at here k_at part below

    owns : (pass : Which) (f : ℕ) (s : NumberedSeat H h) → f < functions → slice_get row f ≡ Some s → (kept_in j.1.items (room_at f pass)).offered ≡ true
        → IsToldAs (IsOwnTextIn pass_texts pass (four_of s)) (last_offer_in j.1.items (room_at f pass))
    owns Constants f s below here offered =
        owned rtl_language.ghosts rtl_language.ghosts constants.ghosts Constants q functions journals seated.kept (λ (x : NumberedSeat H h). constants_seat x) rows sizes seated.long seated.constants i f row s j at here j_at below (ap (λ n. n.me) (keeps Constants f s below here)) offered
    owns Expressions f s below here offered =
        owned rtl_language.ghosts rtl_language.ghosts expressions.ghosts Expressions q functions journals seated.kept (λ (x : NumberedSeat H h). expressions_seat x) rows sizes seated.long seated.expressions i f row s j at here j_at below (ap (λ n. n.me) (keeps Expressions f s below here)) offered
    owns Allocation f s below here offered =
        owned rtl_language.ghosts ltl_language.ghosts allocation.ghosts Allocation q functions journals seated.kept (λ (x : NumberedSeat H h). allocation_seat x) rows sizes seated.long seated.allocation i f row s j at here j_at below (ap (λ n. n.me) (keeps Allocation f s below here)) offered
    owns Order f s below here offered =
        owned ltl_language.ghosts linear_language.ghosts order.ghosts Order q functions journals seated.kept (λ (x : NumberedSeat H h). order_seat x) rows sizes seated.long seated.order i f row s j at here j_at below (ap (λ n. n.me) (keeps Order f s below here)) offered

    runs : length journals ≡ q.nodes → (pass : Which) (f : ℕ) (s : NumberedSeat H h) → f < functions → slice_get row f ≡ Some s → IsOfRun (words_of (four_of s) pass)
    runs many Constants f s below here =
        seat_of_run q seated.kept Constants functions (rows_of seated.constants.offers) (λ (x : NumberedSeat H h). constants_seat x) rows sizes seated.long seated.constants.opened i f row s at here (omega (arith, many, seated.are_kept.count)) (seated.settled f below)
    runs many Expressions f s below here =
        seat_of_run q seated.kept Expressions functions (rows_of seated.expressions.offers) (λ (x : NumberedSeat H h). expressions_seat x) rows sizes seated.long seated.expressions.opened i f row s at here (omega (arith, many, seated.are_kept.count)) (seated.settled f below)
    runs many Allocation f s below here =
        seat_of_run q seated.kept Allocation functions (rows_of seated.allocation.offers) (λ (x : NumberedSeat H h). allocation_seat x) rows sizes seated.long seated.allocation.opened i f row s at here (omega (arith, many, seated.are_kept.count)) (seated.settled f below)
    runs many Order f s below here =
        seat_of_run q seated.kept Order functions (rows_of seated.order.offers) (λ (x : NumberedSeat H h). order_seat x) rows sizes seated.long seated.order.opened i f row s at here (omega (arith, many, seated.are_kept.count)) (seated.settled f below)

    row_size : length row ≡ functions
    row_size = all_at (λ (r : List (NumberedSeat H h)). length r ≡ functions) rows i row seated.long at

    fours_size : length (fours_of row) ≡ functions
    fours_size = length-map row four_of ∙ row_size

    node_is : (m : ℕ) (s : Four ConstantsOffer ExpressionsOffer AllocationOffer OrderOffer) → slice_get (fours_of row) (function_of m) ≡ Some s → (words_of s (pass_of m)).node ≡ node_with i q (kept_in j.1.items m)
    node_is m s got =
        let found : (x : NumberedSeat H h) × (slice_get row (function_of m) ≡ Some x) × (four_of x ≡ s) = map_at four_of row (function_of m) s got in
        let low : function_of m < functions = omega (arith, slice_get_within row (function_of m) found.0 found.1, row_size) in
        ap (λ (four : Four ConstantsOffer ExpressionsOffer AllocationOffer OrderOffer). (words_of four (pass_of m)).node) (sym found.2) ∙ keeps (pass_of m) (function_of m) found.0 low found.1
        ∙ ap (λ room. node_with i q (kept_in j.1.items room)) (room_is m)

    -- each seat is the node's, and proposes nothing
    seats_of : (digest : List ℕ) → AreSeatsOf (header_of q digest i) (fours_of row)
    seats_of digest = record { me = λ m s got. ap (λ n. n.me) (node_is m s got); quorums = λ m s got. ap (λ n. n.quorums) (node_is m s got) }

    -- each is of its run
    of_runs : length journals ≡ q.nodes → AreOfRuns (fours_of row)
    of_runs many m s got =
        let found : (x : NumberedSeat H h) × (slice_get row (function_of m) ≡ Some x) × (four_of x ≡ s) = map_at four_of row (function_of m) s got in
        let low : function_of m < functions = omega (arith, slice_get_within row (function_of m) found.0 found.1, row_size) in
        subst (λ (four : Four ConstantsOffer ExpressionsOffer AllocationOffer OrderOffer). IsOfRun (words_of four (pass_of m))) found.2 (runs many (pass_of m) (function_of m) found.0 low found.1)

    unproposed_of : AreUnproposed (fours_of row) j.1.items
    unproposed_of m s got b is none = let bad : Some b ≡ None = sym is ∙ ap (λ n. n.ballot) (node_is m s got) in absurd (cc)

    in_order_of : (nodes : ℕ) → length journals ≡ nodes → AreInOrder nodes i (4 * length (fours_of row)) j.1.items
    in_order_of nodes same = subst (λ (n : ℕ). AreInOrder n i (4 * length (fours_of row)) j.1.items) same (subst (λ (n : ℕ). AreInOrder (length journals) i (4 * n) j.1.items) (sym fours_size) part.in_order)

    leave_of : Leave pass_texts (fours_of row) j.1.items
    leave_of = record {
      rooms = λ m s got. ap (λ n. n.kept) (sym (node_is m s got));
      no_others = λ m over.
          let beyond : 4 * functions ≤ m = omega (arith, over, fours_size) in
          none_of_others kept_by_record (4 * functions) m j.1.items nothing_kept (of_rooms (length journals) i (4 * functions) j.1.items part.in_order) beyond;
      offers = λ m s got now.
          let found : (x : NumberedSeat H h) × (slice_get row (function_of m) ≡ Some x) × (four_of x ≡ s) = map_at four_of row (function_of m) s got in
          let low : function_of m < functions = omega (arith, slice_get_within row (function_of m) found.0 found.1, row_size) in
          let offered : (kept_in j.1.items (room_at (function_of m) (pass_of m))).offered ≡ true =
          ap (λ room. (kept_in j.1.items room).offered) (room_is m) ∙ (ap (λ n. n.kept.offered) (sym (node_is m s got)) ∙ now) in
          subst (λ (four : Four ConstantsOffer ExpressionsOffer AllocationOffer OrderOffer). IsToldAs (IsOwnTextIn pass_texts (pass_of m) four) (last_offer_in j.1.items m)) found.2
          (subst (λ room. IsToldAs (IsOwnTextIn pass_texts (pass_of m) (four_of found.0)) (last_offer_in j.1.items room)) (room_is m)
          (owns (pass_of m) (function_of m) found.0 low found.1 offered));
    }

    named_of : AreOf (4 * length (fours_of row)) j.1.items
    named_of =
        subst (λ (n : ℕ). AreOf (4 * n) j.1.items) (sym fours_size) (of_rooms (length journals) i (4 * functions) j.1.items part.in_order)

-- so it is of all nodes
module _ {D H : Type 0} {h : naming.Ghosts H} (disk : disks.Ghosts D) (pair : pairs.Ghosts D) (q : Sizes) (digest : List ℕ) (given : List D) (functions : ℕ) (journals : List (Log D × Vec Record)) (seats : List (Vec (NumberedSeat H h)))
    (opened : AreOpened disk pair q digest given (length given) journals) (sizes : AreQuorums q) (seated : AreSeated q functions journals (rows_of seats)) (nodes : length given ≡ q.nodes) where
  held_at : (i : ℕ) (j : Log D × Vec Record) (s : Vec (NumberedSeat H h)) → slice_get journals i ≡ Some j → slice_get seats i ≡ Some s → IsHeld pass_texts disk j.0 (fours_of s.items)
  held_at i j s at here =
      let within : i < length journals = slice_get_within journals i j at in
      let d : (d : D) × (slice_get given i ≡ Some d) = found_at given i (omega (arith, within, opened.size)) in
      let k : (k : Vec KeptPart) × (slice_get seated.kept i ≡ Some k) = found_at seated.kept i (omega (arith, within, seated.are_kept.count)) in
      let is : IsOpened disk pair (header_of q digest i) d.0 j.0 j.1.items = opened.each i j d.0 at d.1 in
      let row_at : slice_get (rows_of seats) i ≡ Some s.items = at_map (λ (v : Vec (NumberedSeat H h)). v.items) seats i s here in
      let same : (honest : disk.is_honest j.0.disk) → acknowledged disk.seen j.0 ≡ j.1.items = λ honest. is.acknowledged_are (is.honest.0 honest) in
      record {
        sound = is.sound;
        going = is.going;
        own = subst (λ (g : Header). AreSeatsOf g (fours_of s.items)) (sym is.header_is) (seats_of q functions journals (rows_of seats) sizes seated i s.items k.0 j row_at k.1 at digest);
        of_runs = of_runs q functions journals (rows_of seats) sizes seated i s.items k.0 j row_at k.1 at (opened.size ∙ nodes);
        leave = λ honest. subst (λ (rs : List Record). Leave pass_texts (fours_of s.items) rs) (sym (same honest)) (leave_of q functions journals (rows_of seats) sizes seated i s.items k.0 j row_at k.1 at);
        in_order = λ honest.
            subst (λ (g : Header). AreInOrder g.nodes g.node (4 * length (fours_of s.items)) (acknowledged disk.seen j.0)) (sym is.header_is)
            (subst (λ (rs : List Record). AreInOrder q.nodes i (4 * length (fours_of s.items)) rs) (sym (same honest)) (in_order_of q functions journals (rows_of seats) sizes seated i s.items k.0 j row_at k.1 at q.nodes (opened.size ∙ nodes)));
        unproposed = λ honest. subst (λ (rs : List Record). AreUnproposed (fours_of s.items) rs) (sym (same honest)) (unproposed_of q functions journals (rows_of seats) sizes seated i s.items k.0 j row_at k.1 at);
        named = λ honest. subst (λ (rs : List Record). AreOf (4 * length (fours_of s.items)) rs) (sym (same honest)) (named_of q functions journals (rows_of seats) sizes seated i s.items k.0 j row_at k.1 at);
      }

  pub held : AreHeld pass_texts disk (λ (j : Log D × Vec Record). j.0) (λ (s : Vec (NumberedSeat H h)). fours_of s.items) journals seats
  held = record { count = sym (length-map seats (λ (v : Vec (NumberedSeat H h)). v.items)) ∙ seated.count; each = held_at }
