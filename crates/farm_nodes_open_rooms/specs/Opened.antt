-- The rooms of one pass of all functions, as they open.
use Rattle.std.specs.Prelude.{ℕ, ◌<◌, List, Option, map}
use Rattle.std.specs.Global.{Vec}
use Rattle.paxos_core_world.specs.KeptPart.{KeptPart}
use Rattle.paxos_core_world.specs.Quorum.{Sizes}
use Rattle.rooms_hall.specs.Claimed.{Claimed}
use Rattle.rooms.specs.Opened.{AreOffersOf}
use Rattle.rooms.specs.SeatValue.{SeatValue}
use Rattle.farm_nodes_turn_passes.specs.Numbers.{room_at}
use Rattle.farm_nodes_turn_passes.specs.declared.which.Which.{Which}
use Rattle.farm_nodes_open_numbers.specs.Kept.{kept_of, IsSettledIn}
use Rattle.farm_nodes_open_numbers.specs.Numbered.{IsOpenedRoom}
use Rattle.farm_nodes_open_lists.specs.Rows.{column, offers_of}

-- the offers for a function are those of the nodes that have kept that they made one in the room of its pass
abbrev pub AreOfferedFor : {T : Type 0} → List (Vec KeptPart) → Which → ℕ → List (List (Option T)) → Type 0
AreOfferedFor kept pass f offers = AreOffersOf (kept_of kept (room_at f pass)) (offers_of offers f)

-- so are those for all functions
abbrev pub AreOfferedIn : {T : Type 0} → List (Vec KeptPart) → Which → ℕ → List (List (Option T)) → Type 0
AreOfferedIn kept pass functions offers = (f : ℕ) → f < functions → AreOfferedFor kept pass f offers

-- what the nodes have for each function shows the seats of the room of its pass, as it opens
abbrev pub AreOpenedIn : {T N : Type 0} → Sizes → List (Vec KeptPart) → Which → ℕ → List (List (Option T)) → (N → SeatValue T × Claimed) → List (List N) → Type 0
AreOpenedIn q kept pass functions offers show nodes =
    (f : ℕ) → f < functions → IsOpenedRoom q (kept_of kept (room_at f pass)) (offers_of offers f) (map show (column nodes f))

-- what was kept of each room in front of this one is settled
abbrev pub IsSettledBefore : Sizes → List (Vec KeptPart) → ℕ → Type 0
IsSettledBefore q kept room = (m : ℕ) → m < room → IsSettledIn q kept m
