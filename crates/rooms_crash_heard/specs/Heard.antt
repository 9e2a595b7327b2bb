-- What passes from seat to seat of a room, directly or through others, as they meet in pairs with nothing between them but meetings.
use Rattle.std.specs.Prelude.{◌≡◌, ℕ, zero, suc, ◌<◌, ◌⊎◌, List, [], ◌∷◌, ◌++◌}
use Rattle.paxos_core_world.specs.Quorum.{Sizes}
use Rattle.rooms_meeting.specs.SeatState.{SeatState}
use Rattle.rooms_crash.specs.Meetings.{IsSeatOf, Meetings}
use Rattle.rooms_crash.specs.Rest.{AreAtRest}

-- of these two that meet one is node k and the other node j; or they are one node, which forgets nothing
abbrev pub Tells : ℕ × ℕ → ℕ → ℕ → Type 0
Tells p k j = (k ≡ j) ⊎ ((p ≡ (k, j)) ⊎ (p ≡ (j, k)))

-- what node i knew before these meetings, the newest first, node j knows behind them
abbrev pub Hears : List (ℕ × ℕ) → ℕ → ℕ → Type 0
Hears [] i j = i ≡ j
Hears (p ∷ ps) i j = (k : ℕ) × Hears ps i k × Tells p k j

-- of each of n nodes node h hears
abbrev pub HearsOfAll : List (ℕ × ℕ) → ℕ → ℕ → Type 0
HearsOfAll ps n h = (i : ℕ) → i < n → Hears ps i h

-- each of n nodes hears of node h
abbrev pub AllHearOf : List (ℕ × ℕ) → ℕ → ℕ → Type 0
AllHearOf ps n h = (i : ℕ) → i < n → Hears ps h i

-- each two neighbours of nodes 0 to n meet, the first two first
abbrev pub forth : ℕ → List (ℕ × ℕ)
forth zero = []
forth (suc n) = (n, suc n) ∷ forth n

-- the last two first
abbrev pub back : ℕ → List (ℕ × ℕ)
back zero = []
back (suc n) = back n ++ ((n, suc n) ∷ [])

-- ---- the promises

-- Where node h hears of all, and all hear of node h again, the nodes rest as they were before in the run that h has seen between.
abbrev pub HeardRest : Type 0
HeardRest =
    (q : Sizes) (h : ℕ) (first second : List (ℕ × ℕ)) (old between new : ℕ → SeatState) → h < q.nodes
    → Meetings first old between → HearsOfAll first q.nodes h → Meetings second between new → AllHearOf second q.nodes h
    → ((i : ℕ) → i < q.nodes → IsSeatOf q i (old i))
    → AreAtRest q (old h).view.opening (between h).view.seen old

-- so it is of neighbours: on the way there the last node hears of all, and on the way back all hear of it
abbrev pub NeighboursHear : Type 0
NeighboursHear = (n : ℕ) → HearsOfAll (forth n) (suc n) n × AllHearOf (back n) (suc n) n
