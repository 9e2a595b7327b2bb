-- The lines of a schedule: words parted by one blank, numbers in decimal without leading zeros.
use Rattle.std.specs.Prelude.{◌≡◌, ◌⊎◌, ℕ, ◌<◌, ◌^◌, List, ◌++◌, Option, Some, codes}
use Rattle.std.specs.Fmt.{decimal}
use Rattle.paxos_core_world.specs.Quorum.{majority_sizes, AreQuorums, Sizes}
use Rattle.cfarm_sim_lines.specs.declared.command.Command.{Command}
use Rattle.cfarm_sim_lines.specs.declared.command.Command.TheVariants.{Offer, Start, Propose, Restart, Deliver}

-- the first line says how many nodes there are, with quorums of which both kinds are more than half of them
abbrev pub head_of : ℕ → List ℕ
head_of count = codes "nodes " ++ decimal count

-- or it says the sizes of a promise quorum and of an accept quorum too
abbrev pub sizes_head_of : Sizes → List ℕ
sizes_head_of q = codes "nodes " ++ (decimal q.nodes ++ (codes " " ++ (decimal q.promise ++ (codes " " ++ decimal q.accept))))

-- the line is a first line that says these sizes, which meet
abbrev pub IsHead : List ℕ → Sizes → Type 0
IsHead line q = AreQuorums q × ((line ≡ sizes_head_of q) ⊎ ((line ≡ head_of q.nodes) × (q ≡ majority_sizes q.nodes)))

-- the node and the message of a delivery
abbrev pub delivery_of : ℕ → ℕ → List ℕ
delivery_of node message = decimal node ++ (codes " " ++ decimal message)

-- what the words of a delivery are read as
abbrev pub IsReadAsDelivery : List ℕ → Option Command → Type 0
IsReadAsDelivery words read = (i k : ℕ) → i < 256 → k < 2 ^ 64 → words ≡ delivery_of i k → read ≡ Some (Deliver i k)

-- each other line asks a node for one call
abbrev pub line_of : Command → List ℕ
line_of (Offer node) = codes "offer " ++ decimal node
line_of (Start node) = codes "start " ++ decimal node
line_of (Propose node) = codes "propose " ++ decimal node
line_of (Restart node) = codes "restart " ++ decimal node
line_of (Deliver node message) = codes "deliver " ++ delivery_of node message

-- the numbers of a command lie in machine words
abbrev pub IsInWords : Command → Type 0
IsInWords (Offer node) = node < 256
IsInWords (Start node) = node < 256
IsInWords (Propose node) = node < 256
IsInWords (Restart node) = node < 256
IsInWords (Deliver node message) = (node < 256) × (message < 2 ^ 64)
