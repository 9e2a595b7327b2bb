-- The seats of a room as it is opened from what its nodes have kept, their offers among it.
use Rattle.std.specs.Prelude.{◌≡◌, ℕ, zero, suc, ◌<◌, List, [], ◌∷◌, ◌++◌, length, true, Option, Some, None, is_some, slice_index_or, slice_set}
use Rattle.paxos_core_world.specs.KeptPart.{KeptPart}
use Rattle.paxos_core_world.specs.Quorum.{Sizes}
use Rattle.paxos_core_world.specs.World.{nodes_of}
use Rattle.rooms_cells.specs.Seen.{SightOf, sight_at, unseen}
use Rattle.rooms_seat.specs.Opening.{Opening}
use Rattle.rooms_seat.specs.RoomAt.{RoomAt}
use Rattle.rooms_seat.specs.SeatState.{opened_seat, opening_of}
use Rattle.rooms.specs.SeatValue.{SeatValue}

-- node i's offer, if it has made one
abbrev pub offer_at : {T : Type 0} → List (Option T) → ℕ → Option T
offer_at offers i = slice_index_or offers i None

-- they are the offers of the nodes that have made one
pub record AreOffersOf {T : Type 0} (kept : List KeptPart) (offers : List (Option T)) : Type 0 where
  pub size : length offers ≡ length kept
  pub made : (i : ℕ) → i < length kept → (nodes_of kept i).offered ≡ is_some (offer_at offers i)

-- this is node i's offer, if what it has kept in a room that opens so says that it has made one
abbrev pub IsFit : {T : Type 0} → Opening → ℕ → Option T → Type 0
IsFit o i offer = (nodes_of o.kept i).offered ≡ true → is_some offer ≡ true

-- so it is of all nodes
abbrev pub AreFit : {T : Type 0} → Opening → List (Option T) → Type 0
AreFit o offers = (i : ℕ) → i < o.quorums.nodes → IsFit o i (offer_at offers i)

-- there is an offer among them
abbrev pub AnyOffered : {T : Type 0} → List (Option T) → Type 0
AnyOffered {T} offers = (i : ℕ) × (x : T) × (offer_at offers i ≡ Some x)

-- once this was seen in cell i
abbrev pub with_seen : {T : Type 0} → ℕ → Option T → List (SightOf T) → List (SightOf T)
with_seen i None sights = sights
with_seen i (Some x) sights = slice_set sights i record (sight_at sights i) { value = Some x }

-- node i's seat: which words and cells its room has, how the room opens, and the node's offer, the only one that it has seen
abbrev pub opened : {T : Type 0} → RoomAt → List ℕ → Opening → ℕ → Option T → SeatValue T
opened table cells o i offer = record { words = opened_seat table o i; sights = with_seen i offer (unseen cells) }

-- the seats of the first k nodes, in their order
abbrev pub opened_first : {T : Type 0} → RoomAt → List ℕ → Opening → List (Option T) → ℕ → List (SeatValue T)
opened_first table cells o offers zero = []
opened_first table cells o offers (suc k) = opened_first table cells o offers k ++ opened table cells o k (offer_at offers k) ∷ []

-- they are the seats of all nodes of a room at this place, which is opened so
pub record AreDealt {T : Type 0} (table : RoomAt) (o : Opening) (offers : List (Option T)) (seats : List (SeatValue T)) : Type 0 where
  pub cells : List ℕ
  pub size : length cells ≡ 7
  pub seats_are : seats ≡ opened_first table cells o offers o.quorums.nodes

-- they are the seats of all nodes of a room that is opened so, with quorums of these sizes
pub record AreOpened {T : Type 0} (q : Sizes) (kept : List KeptPart) (offers : List (Option T)) (seats : List (SeatValue T)) : Type 0 where
  pub table : RoomAt
  pub cells : List ℕ
  pub size : length cells ≡ 7
  pub seats_are : seats ≡ opened_first table cells (opening_of q kept) offers q.nodes
