-- The world of one room: what all its nodes keep, and what has happened in it since it was opened.
use Rattle.std.specs.Prelude.{◌≡◌, ℕ, zero, suc, ◌==◌, ◌⊎◌, List, [], ◌∷◌, ◌++◌, slice_index_or, if◌then◌else◌, Option, Some, None}
use Rattle.paxos_core_world.specs.KeptPart.{KeptPart, nothing_kept}
use Rattle.paxos_core_world.specs.declared.msg.Msg.{Msg}
use Rattle.paxos_core_world.specs.declared.msg.Msg.TheVariants.{Prepare, Accepted}
use Rattle.paxos_core_world.specs.declared.vote.Vote.{Vote}

-- each node's kept part, the messages that were ever sent, the ballots begun in this run, and who learned which value
pub record World : Type 0 where
  pub nodes : ℕ → KeptPart
  pub sent : List Msg
  pub begun : List ℕ
  pub learned : List (ℕ × ℕ)

-- x is among them
abbrev pub Has : {A : Type 0} → A → List A → Type 0
Has x [] = ⊥
Has x (y ∷ ys) = (x ≡ y) ⊎ Has x ys

-- the nodes with another kept part at node i
abbrev pub put : (ℕ → KeptPart) → ℕ → KeptPart → ℕ → KeptPart
put nodes i k j = if j == i then k else nodes j

-- a started ballot shows that its Prepare was sent
abbrev pub shown_start : ℕ → List Msg
shown_start zero = []
shown_start (suc b) = Prepare (suc b) ∷ []

-- a vote shows that its Accepted was sent
abbrev pub shown_vote : ℕ → Option Vote → List Msg
shown_vote i None = []
shown_vote i (Some x) = Accepted i x.ballot x.value ∷ []

-- the messages that the first n nodes' kept parts show
abbrev pub shown : ℕ → (ℕ → KeptPart) → List Msg
shown zero nodes = []
shown (suc n) nodes = (shown_start (nodes n).started ++ shown_vote n (nodes n).accepted) ++ shown n nodes

-- the world of n nodes as a run begins: what their kept parts show was sent, nothing is begun, and nothing is learned
abbrev pub opening : ℕ → (ℕ → KeptPart) → World
opening n nodes = record { nodes = nodes; sent = shown n nodes; begun = []; learned = [] }

-- the nodes whose kept parts are listed
abbrev pub nodes_of : List KeptPart → ℕ → KeptPart
nodes_of parts i = slice_index_or parts i nothing_kept

-- the nodes of a room in which nobody has kept anything
abbrev pub no_nodes : ℕ → KeptPart
no_nodes _ = nothing_kept
