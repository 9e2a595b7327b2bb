-- What the nodes have kept of their rooms, and whether those of a function are settled.
use Rattle.std.specs.Prelude.{ℕ, ◌+◌, ◌*◌, ◌<◌, List, [], ◌∷◌, length, map}
use Rattle.std.specs.Global.{Vec}
use Rattle.paxos_core_world.specs.KeptPart.{KeptPart}
use Rattle.paxos_core_world.specs.Quorum.{Sizes}
use Rattle.paxos_core_world.specs.Settled.{Settled}
use Rattle.paxos_core_world.specs.Step.{HasOffered}
use Rattle.paxos_core_world.specs.World.{nodes_of}
use Rattle.farm_nodes_turn_passes.specs.declared.which.Which.{Which}
use Rattle.farm_nodes_turn_passes.specs.Numbers.{room_at}

-- what each node has kept of a room, of which each has a list by room
abbrev pub kept_of : List (Vec KeptPart) → ℕ → List KeptPart
kept_of nodes room = map (λ node. nodes_of node.items room) nodes

-- what a node has kept of the four rooms of a function
abbrev pub four_kept : List KeptPart → ℕ → List KeptPart
four_kept node f = nodes_of node (4 * f) ∷ nodes_of node (4 * f + 1) ∷ nodes_of node (4 * f + 2) ∷ nodes_of node (4 * f + 3) ∷ []

-- so it is of each node
abbrev pub parts_of : List (Vec KeptPart) → ℕ → List (List KeptPart)
parts_of nodes f = map (λ node. four_kept node.items f) nodes

-- what the nodes have kept of a room is settled, with quorums of these sizes
abbrev pub IsSettledIn : Sizes → List (Vec KeptPart) → ℕ → Type 0
IsSettledIn q nodes room = Settled q (nodes_of (kept_of nodes room))

-- so it is in each room of a function
abbrev pub AreSettled : Sizes → List (Vec KeptPart) → ℕ → Type 0
AreSettled q nodes function = (pass : Which) → IsSettledIn q nodes (room_at function pass)

-- and in each that stands in front of this one
abbrev pub AreSettledBefore : Sizes → List (Vec KeptPart) → ℕ → ℕ → Type 0
AreSettledBefore q nodes function room = (pass : Which) → room_at function pass < room → IsSettledIn q nodes (room_at function pass)

-- somebody has kept that it offered in a room
abbrev pub IsOfferedIn : List (Vec KeptPart) → ℕ → Type 0
IsOfferedIn nodes room = (i : ℕ) × HasOffered (length (kept_of nodes room)) (nodes_of (kept_of nodes room)) i
