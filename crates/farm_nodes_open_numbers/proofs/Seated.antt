-- What each seat of a room holds as it opens.
use Rattle.std.proofs.Common.{◌≡◌, ◌≢◌, ◌⊎◌, inl, inr, ℕ, zero, suc, ◌<◌, ◌≤◌, List, [], ◌∷◌, ◌++◌, length, map, get_or-set_same, get_or-set_other, Option, Some, None, option_map, refl, sym, ap, subst, ◌∙◌, arith}
use Rattle.std.specs.Prelude.{slice_get}
use Rattle.std.proofs.lemmas.Bool.{cases_eq}
use Rattle.std.proofs.lemmas.List.{length-map}
use Rattle.std.proofs.lemmas.Option.{same_Some, slice_get-map, slice_get_within}
use Rattle.paxos_core_node_steps.specs.NodeState.{node_with}
use Rattle.paxos_core_world.specs.KeptPart.{KeptPart}
use Rattle.paxos_core_world.specs.Quorum.{AreQuorums, Sizes}
use Rattle.paxos_core_world.specs.Settled.{Settled}
use Rattle.paxos_core_world.specs.World.{nodes_of}
use Rattle.rooms_table.specs.RoomAt.{RoomAt}
use Rattle.rooms_cells.specs.Seen.{SightOf, nothing_seen, sight_at, unseen, value_at}
use Rattle.rooms_hall.specs.Claimed.{Claimed}
use Rattle.rooms_words.specs.declared.view.Opening.{Opening}
use Rattle.rooms_seat_state.specs.SeatState.{opening_of}
use Rattle.rooms_seat_state.proofs.Opened.{can_open}
use Rattle.farm_nodes_turn_passes.specs.OfRun.{IsOfRun}
use Rattle.farm_nodes_turn_passes.proofs.Keeping.{opened_of_run}
use Rattle.rooms.specs.Opened.{offer_at, opened, opened_first, with_seen}
use Rattle.rooms.specs.SeatValue.{SeatValue, offer_of}
use Rattle.farm_nodes_open_numbers.specs.Numbered.{IsOpenedRoom}
use Rattle.farm_nodes_open_numbers.proofs.OneRoom.{so_many}
use Rattle.farm_nodes_open_lists.proofs.Places.{get_front, get_last}

nothing_at : {T : Type 0} (names : List ℕ) (j : ℕ) → value_at (unseen {T = T} names) j ≡ None
nothing_at [] j = refl
nothing_at (n ∷ ns) zero = refl
nothing_at {T} (n ∷ ns) (suc j) = nothing_at {T = T} ns j

unseen_count : (T : Type 0) (names : List ℕ) → length (unseen {T = T} names) ≡ length names
unseen_count T [] = refl
unseen_count T (n ∷ ns) = ap suc (unseen_count T ns)

-- a room has at most seven nodes
row_at : (q : Sizes) (kept : List KeptPart) (i : ℕ) → i < 7 → nodes_of (opening_of q kept).kept i ≡ nodes_of kept i
row_at q kept zero low = refl
row_at q kept (suc zero) low = refl
row_at q kept (suc (suc zero)) low = refl
row_at q kept (suc (suc (suc zero))) low = refl
row_at q kept (suc (suc (suc (suc zero)))) low = refl
row_at q kept (suc (suc (suc (suc (suc zero))))) low = refl
row_at q kept (suc (suc (suc (suc (suc (suc zero)))))) low = refl
row_at q kept (suc (suc (suc (suc (suc (suc (suc i))))))) low = absurd (omega (arith, low))

module _ {T : Type 0} (table : RoomAt) (cells : List ℕ) (o : Opening) (offers : List (Option T)) where
  abbrev seat : ℕ → SeatValue T
  seat i = opened table cells o i (offer_at offers i)

  at_first : (k i : ℕ) → i < k → slice_get (opened_first table cells o offers k) i ≡ Some (seat i)
  at_first zero i low = absurd (omega (arith, low))
  at_first (suc k) i low = on (at_first k i) (cases_eq i k)
    where
      front : List (SeatValue T)
      front = opened_first table cells o offers k

      count : length front ≡ k
      count = so_many {T = T} table cells o offers k

      on : (i < k → slice_get (opened_first table cells o offers k) i ≡ Some (seat i)) → (i ≡ k) ⊎ (i ≢ k) → slice_get (opened_first table cells o offers (suc k)) i ≡ Some (seat i)
      on before (inl e) = subst (λ (m : ℕ). slice_get (front ++ seat k ∷ []) m ≡ Some (seat m)) (sym e) (subst (λ (m : ℕ). slice_get (front ++ seat k ∷ []) m ≡ Some (seat k)) count (get_last front (seat k)))
      on before (inr ne) = get_front front (seat k) i (omega (arith, low, ne, count)) ∙ before (omega (arith, low, ne))

module _ {T : Type 0} (cells : List ℕ) (i : ℕ) where
  own_seen : (offer : Option T) → i < length cells → value_at (with_seen i offer (unseen cells)) i ≡ offer
  own_seen None low = nothing_at {T = T} cells i
  own_seen (Some x) low =
      let is : SightOf T = record (sight_at (unseen {T = T} cells) i) { value = Some x } in
      let within : i < length (unseen {T = T} cells) = omega (arith, low, unseen_count T cells) in
      ap (λ (s : SightOf T). s.value) (get_or-set_same (unseen {T = T} cells) i is nothing_seen within)

  no_other_seen : (offer : Option T) (j : ℕ) → j ≢ i → value_at (with_seen i offer (unseen cells)) j ≡ None
  no_other_seen None j other = nothing_at {T = T} cells j
  no_other_seen (Some x) j other =
      let is : SightOf T = record (sight_at (unseen {T = T} cells) i) { value = Some x } in
      ap (λ (s : SightOf T). s.value) (get_or-set_other (unseen {T = T} cells) i j is nothing_seen other) ∙ nothing_at {T = T} cells j

module _ {T : Type 0} (q : Sizes) (kept : List KeptPart) (offers : List (Option T)) (seats : List (SeatValue T × Claimed)) (sizes : AreQuorums q) (is : IsOpenedRoom q kept offers seats)
    (i : ℕ) (x : SeatValue T × Claimed) (at : slice_get seats i ≡ Some x) where
  abbrev o : Opening
  o = opening_of q kept

  low : i < q.nodes
  low =
      let within : i < length seats = slice_get_within seats i x at in
      let one : length (map (λ (p : SeatValue T × Claimed). p.0) seats) ≡ length seats = length-map seats (λ p. p.0) in
      omega (arith, within, one, ap length is.opened.seats_are, so_many {T = T} is.opened.table is.opened.cells o offers q.nodes)

  seat_is : x.0 ≡ opened is.opened.table is.opened.cells o i (offer_at offers i)
  seat_is =
      let there : slice_get (map (λ (p : SeatValue T × Claimed). p.0) seats) i ≡ Some x.0 =
      slice_get-map (λ (p : SeatValue T × Claimed). p.0) seats i ∙ ap (option_map (λ (p : SeatValue T × Claimed). p.0)) at in
      same_Some x.0 (opened is.opened.table is.opened.cells o i (offer_at offers i))
      (sym there ∙ ap (λ (xs : List (SeatValue T)). slice_get xs i) is.opened.seats_are ∙ at_first {T = T} is.opened.table is.opened.cells o offers q.nodes i low)

  -- it is the node's, knows what the node has kept, and has learned nothing
  pub node_opens : x.0.words.node ≡ node_with i q (nodes_of kept i)
  node_opens =
      let few : q.nodes ≤ 7 = sizes.most in
      ap (λ (s : SeatValue T). s.words.node) seat_is ∙ ap (node_with i q) (row_at q kept i (omega (arith, low, few)))

  -- and is of the run without steps
  pub seat_of_run : length kept ≡ q.nodes → Settled q (nodes_of kept) → IsOfRun x.0.words
  seat_of_run count settled =
      subst (λ (s : SeatValue T). IsOfRun s.words) (sym seat_is) (opened_of_run is.opened.table o i (can_open q kept sizes count settled) low)

  -- it has seen the node's offer, if that has made one, and no other
  pub own_offer : offer_of x.0 i ≡ offer_at offers i
  own_offer =
      let few : q.nodes ≤ 7 = sizes.most in
      ap (λ (s : SeatValue T). offer_of s i) seat_is
      ∙ own_seen {T = T} is.opened.cells i (offer_at offers i) (omega (arith, low, few, is.opened.size))

  pub no_other_offer : (j : ℕ) → j ≢ i → offer_of x.0 j ≡ None
  no_other_offer j other =
      ap (λ (s : SeatValue T). offer_of s j) seat_is ∙ no_other_seen {T = T} is.opened.cells i (offer_at offers i) j other
