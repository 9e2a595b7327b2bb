-- What each node's seat of a function holds as the rooms open.
use Rattle.std.proofs.Common.{◌≡◌, ◌≢◌, ℕ, zero, suc, ◌<◌, List, [], ◌∷◌, length, map, All, Option, Some, None, option_map, sym, ap, subst, ◌∙◌, arith}
use Rattle.std.specs.Global.{Vec}
use Rattle.std.specs.Prelude.{slice_get}
use Rattle.std.specs.List.{cons_option}
use Rattle.std.proofs.lemmas.List.{length-map}
use Rattle.std.proofs.lemmas.List.Elements.{All-get_or, All-head, All-tail}
use Rattle.std.proofs.lemmas.Option.{get_or_from_slice_get, none-some, same_Some, slice_get-get_or, slice_get-map, slice_get_within}
use Rattle.paxos_core_node_steps.specs.NodeState.{node_with}
use Rattle.paxos_core_world.specs.KeptPart.{KeptPart, nothing_kept}
use Rattle.paxos_core_world.specs.Quorum.{AreQuorums, Sizes}
use Rattle.paxos_core_world.specs.World.{nodes_of}
use Rattle.rooms_hall.specs.Claimed.{Claimed}
use Rattle.rooms.specs.Opened.{offer_at}
use Rattle.rooms.specs.SeatValue.{SeatValue, offer_of}
use Rattle.farm_nodes_open_numbers.specs.OfRun.{IsOfRun}
use Rattle.farm_nodes_turn_passes.specs.Numbers.{room_at}
use Rattle.farm_nodes_turn_passes.specs.declared.which.Which.{Which}
use Rattle.farm_nodes_open_numbers.specs.Kept.{kept_of, AreSettled}
use Rattle.farm_nodes_open_numbers.proofs.Seated.{no_other_offer, node_opens, own_offer}
use Rattle.farm_nodes_open_numbers.proofs.Seated as opening
use Rattle.farm_nodes_open_lists.specs.Rows.{column, offers_of}
use Rattle.farm_nodes_open_rooms.specs.Opened.{AreOpenedIn}

-- a node's value for a function stands at the node's place among all for it
pub column_at : {X : Type 0} (n f : ℕ) (rows : List (List X)) (i : ℕ) (row : List X) (x : X) → f < n → All (λ r. length r ≡ n) rows → slice_get rows i ≡ Some row → slice_get row f ≡ Some x → slice_get (column rows f) i ≡ Some x
column_at n f [] i row x low long at is = absurd (none-some row at)
column_at {X} n f (r ∷ rows) zero row x low long at is =
    let here : slice_get r f ≡ Some x = ap (λ (y : List X). slice_get y f) (same_Some r row at) ∙ is in
    ap (λ (o : Option X). slice_get (cons_option o (column rows f)) 0) here
column_at {X} n f (r ∷ rows) (suc i) row x low long at is =
    let count : length r ≡ n = All-head (λ y. length y ≡ n) r rows long in
    let here : slice_get r f ≡ Some _ = slice_get-get_or r f x (omega (arith, low, count)) in
    ap (λ (o : Option X). slice_get (cons_option o (column rows f)) (suc i)) here
    ∙ column_at n f rows i row x low (All-tail (λ y. length y ≡ n) r rows long) at is

-- what a node has kept of a room
pub kept_at : (kept : List (Vec KeptPart)) (m i : ℕ) (k : Vec KeptPart) → slice_get kept i ≡ Some k → nodes_of (kept_of kept m) i ≡ nodes_of k.items m
kept_at kept m i k at =
    let of_node : Vec KeptPart → KeptPart = λ node. nodes_of node.items m in
    get_or_from_slice_get (kept_of kept m) i (of_node k) nothing_kept (slice_get-map of_node kept i ∙ ap (option_map of_node) at)

module _ {T N : Type 0} (q : Sizes) (kept : List (Vec KeptPart)) (pass : Which) (functions : ℕ) (offers : List (List (Option T))) (show : N → SeatValue T × Claimed) (rows : List (List N))
    (sizes : AreQuorums q) (long : All (λ row. length row ≡ functions) rows) (opened : AreOpenedIn q kept pass functions offers show rows)
    (i f : ℕ) (row : List N) (x : N) (at : slice_get rows i ≡ Some row) (is : slice_get row f ≡ Some x) where
  low : f < functions
  low =
      let within : f < length row = slice_get_within row f x is in
      let count : length row ≡ functions = subst (λ (r : List N). length r ≡ functions) (get_or_from_slice_get rows i row row at) (All-get_or (λ r. length r ≡ functions) rows i row (slice_get_within rows i row at) long) in
      omega (arith, within, count)

  abbrev room : ℕ
  room = room_at f pass

  here : slice_get (map show (column rows f)) i ≡ Some (show x)
  here = slice_get-map show (column rows f) i ∙ ap (option_map show) (column_at functions f rows i row x low long at is)

  -- it is the node's, knows what the node has kept of the room, and has learned nothing
  pub seat_opens : (k : Vec KeptPart) → slice_get kept i ≡ Some k → (show x).0.words.node ≡ node_with i q (nodes_of k.items room)
  seat_opens k its =
      node_opens q (kept_of kept room) (offers_of offers f) (map show (column rows f)) sizes (opened f low) i (show x) here
      ∙ ap (node_with i q) (kept_at kept room i k its)

  -- and is of the run without steps
  pub seat_of_run : length kept ≡ q.nodes → AreSettled q kept f → IsOfRun (show x).0.words
  seat_of_run count settled =
      opening.seat_of_run q (kept_of kept room) (offers_of offers f) (map show (column rows f)) sizes (opened f low) i (show x) here
      (length-map kept (λ (node : Vec KeptPart). nodes_of node.items room) ∙ count) (settled pass)

  -- it has seen the node's offer, if that has made one, and no other
  pub seat_offers : offer_of (show x).0 i ≡ offer_at (offers_of offers f) i
  seat_offers = own_offer q (kept_of kept room) (offers_of offers f) (map show (column rows f)) sizes (opened f low) i (show x) here

  pub seat_alone : (j : ℕ) → j ≢ i → offer_of (show x).0 j ≡ None
  seat_alone = no_other_offer q (kept_of kept room) (offers_of offers f) (map show (column rows f)) sizes (opened f low) i (show x) here
