-- The seats of a function as its rooms open.
use Rattle.std.specs.Prelude.{◌≡◌, ◌≢◌, ℕ, zero, suc, ◌+◌, ◌<◌, ◌≤◌, ◌⊎◌, List, [], ◌∷◌, length, map}
use Rattle.atomic_table.specs.Seated.{TableId}
use Rattle.paxos_core_world.specs.KeptPart.{KeptPart}
use Rattle.paxos_core_world.specs.Quorum.{Sizes}
use Rattle.paxos_core_world.specs.Settled.{Settled}
use Rattle.paxos_core_world.specs.World.{nodes_of}
use Rattle.rooms.specs.RoomAt.{RoomAt}
use Rattle.rooms.specs.SeatState.{opening_of}
use Rattle.rooms.specs.Dealing.{room_opened}
use Rattle.rooms.specs.FourDealers.{FourDealers}
use Rattle.rooms.specs.Opened.{AnyOffered, AreDealt, AreFit}
use Rattle.rooms.specs.declared.error.RoomError.{RoomError}
use Rattle.rooms.specs.declared.error.RoomError.TheVariants.{CellRefused, NoMemory, Unsettled}
use Rattle.rooms_function.specs.declared.opening.FunctionOffers.{FunctionOffers}
use Rattle.rooms_function.specs.declared.seat.FunctionSeat.{FunctionSeat}

-- what the nodes have kept in the room of a pass, the first pass's being 0
abbrev pub kept_of_pass : ℕ → List (List KeptPart) → List KeptPart
kept_of_pass pass kept = map (λ parts. nodes_of parts pass) kept

-- that is settled, with quorums of these sizes
abbrev pub IsSettledIn : Sizes → List (List KeptPart) → ℕ → Type 0
IsSettledIn q kept pass = Settled q (nodes_of (kept_of_pass pass kept))

-- so it is in each pass
abbrev pub AreSettled : Sizes → List (List KeptPart) → Type 0
AreSettled q kept = (pass : ℕ) → pass < 4 → IsSettledIn q kept pass

-- this pass, from 1 to 4, is the lowest in which it is not
pub record IsLowest (q : Sizes) (kept : List (List KeptPart)) (pass : ℕ) : Type 0 where
  pub some : 0 < pass
  pub most : pass ≤ 4
  pub before : (other : ℕ) → other + 1 < pass → IsSettledIn q kept other
  pub here : (other : ℕ) → other + 1 ≡ pass → ¬ IsSettledIn q kept other

-- the parts of seven nodes, of those that there are not with nothing kept
abbrev pub seven_parts : List KeptPart → List KeptPart
seven_parts parts = nodes_of parts 0 ∷ nodes_of parts 1 ∷ nodes_of parts 2 ∷ nodes_of parts 3 ∷ nodes_of parts 4 ∷ nodes_of parts 5 ∷ nodes_of parts 6 ∷ []

-- this pass is told with the reason, where no seat was dealt yet: what was kept is not settled, or there is no memory
abbrev pub IsUndealt : Sizes → List (List KeptPart) → ℕ → RoomError → Type 0
IsUndealt q kept pass error = ((error ≡ Unsettled) × IsLowest q kept pass) ⊎ ((error ≡ NoMemory) × ((pass ≡ 1) × AreSettled q kept))

-- somebody has made an offer in this pass, the first being 1
abbrev pub IsOfferedIn : FunctionOffers → ℕ → Type 0
IsOfferedIn offers (suc zero) = AnyOffered offers.first.items
IsOfferedIn offers (suc (suc zero)) = AnyOffered offers.second.items
IsOfferedIn offers (suc (suc (suc zero))) = AnyOffered offers.third.items
IsOfferedIn offers (suc (suc (suc (suc zero)))) = AnyOffered offers.fourth.items
IsOfferedIn offers other = ⊥

-- This pass, from 1 to 4, is told with the reason. What was kept is told as not settled wherever it is not so in each pass, and then
-- of the lowest pass in which it is not; where a cell refused, somebody has offered in this pass.
pub record IsUnopened (q : Sizes) (kept : List (List KeptPart)) (offers : FunctionOffers) (pass : ℕ) (error : RoomError) : Type 0 where
  pub some : 0 < pass
  pub most : pass ≤ 4
  pub settled : error ≢ Unsettled → AreSettled q kept
  pub before : (other : ℕ) → other + 1 < pass → IsSettledIn q kept other
  pub here : error ≡ Unsettled → (other : ℕ) → other + 1 ≡ pass → ¬ IsSettledIn q kept other
  pub refused : error ≡ CellRefused → IsOfferedIn offers pass

-- a room of a table of four, which has this number
abbrev pub place : TableId → ℕ → ℕ → RoomAt
place table number room = record { table = table; rooms = 4; room = room; number = number }

-- they are the nodes' seats, and in each pass those of the room of that pass in one table, which has this number
pub record AreSeatsOf (number : ℕ) (q : Sizes) (kept : List (List KeptPart)) (offers : FunctionOffers) (seats : List FunctionSeat) : Type 0 where
  pub table : TableId
  pub first : AreDealt (place table number 0) (opening_of q (kept_of_pass 0 kept)) offers.first.items (map (λ s. s.first) seats)
  pub second : AreDealt (place table number 1) (opening_of q (kept_of_pass 1 kept)) offers.second.items (map (λ s. s.second) seats)
  pub third : AreDealt (place table number 2) (opening_of q (kept_of_pass 2 kept)) offers.third.items (map (λ s. s.third) seats)
  pub fourth : AreDealt (place table number 3) (opening_of q (kept_of_pass 3 kept)) offers.fourth.items (map (λ s. s.fourth) seats)

-- they deal the seats of rooms that were opened so, in one table, which has this number
pub record AreDealersOf (number : ℕ) (q : Sizes) (kept : List (List KeptPart)) (all : FourDealers) : Type 0 where
  pub first : all.first ≡ room_opened all.first.table.table number 4 0 q (kept_of_pass 0 kept)
  pub second : all.second ≡ room_opened all.first.table.table number 4 1 q (kept_of_pass 1 kept)
  pub third : all.third ≡ room_opened all.first.table.table number 4 2 q (kept_of_pass 2 kept)
  pub fourth : all.fourth ≡ room_opened all.first.table.table number 4 3 q (kept_of_pass 3 kept)

-- none has dealt a seat, and each pass has so many nodes, and as many offers: those of the nodes that have made one
pub record AreFresh (all : FourDealers) (offers : FunctionOffers) : Type 0 where
  pub next1 : all.first.next ≡ 0
  pub next2 : all.second.next ≡ 0
  pub next3 : all.third.next ≡ 0
  pub next4 : all.fourth.next ≡ 0
  pub count2 : all.second.opening.quorums.nodes ≡ all.first.opening.quorums.nodes
  pub count3 : all.third.opening.quorums.nodes ≡ all.first.opening.quorums.nodes
  pub count4 : all.fourth.opening.quorums.nodes ≡ all.first.opening.quorums.nodes
  pub offers1 : length offers.first.items ≡ all.first.opening.quorums.nodes
  pub offers2 : length offers.second.items ≡ all.second.opening.quorums.nodes
  pub offers3 : length offers.third.items ≡ all.third.opening.quorums.nodes
  pub offers4 : length offers.fourth.items ≡ all.fourth.opening.quorums.nodes
  pub fit1 : AreFit all.first.opening offers.first.items
  pub fit2 : AreFit all.second.opening offers.second.items
  pub fit3 : AreFit all.third.opening offers.third.items
  pub fit4 : AreFit all.fourth.opening offers.fourth.items

-- the nodes' seats, as they were dealt
pub record AreDealtBy (all : FourDealers) (offers : FunctionOffers) (seats : List FunctionSeat) : Type 0 where
  pub first : AreDealt all.first.table all.first.opening offers.first.items (map (λ s. s.first) seats)
  pub second : AreDealt all.second.table all.second.opening offers.second.items (map (λ s. s.second) seats)
  pub third : AreDealt all.third.table all.third.opening offers.third.items (map (λ s. s.third) seats)
  pub fourth : AreDealt all.fourth.table all.fourth.opening offers.fourth.items (map (λ s. s.fourth) seats)
