-- How the seats of a room are dealt out as it opens, and how one seat tells another what it has seen.
use Rattle.std.specs.Prelude.{ℕ, ◌+◌, true, false, []}
use Rattle.paxos_core_world.specs.KeptPart.{nothing_kept}
use Rattle.paxos_core_world.specs.Quorum.{sizes, Sizes}
use Rattle.paxos_core_world.specs.World.{nodes_of}
use Rattle.paxos_core.specs.NodeState.{NodeState, node_with, offered}
use Rattle.rooms_words.specs.declared.view.Opening.{Opening}
use Rattle.rooms_words.specs.declared.view.View.{View}

-- node i as the room opens, held as if it had offered
abbrev pub dealt_node : Opening → ℕ → NodeState
dealt_node o i = offered (node_with i o.quorums (nodes_of o.kept i))

-- the view of a token for the nodes from i up to `end`, as the room opens
abbrev pub dealt_to : Opening → ℕ → ℕ → View
dealt_to o i end =
    record { live = true; opening = o; first = i; end = end; seen = []; told = []; told_by = o; node = dealt_node o i }

-- the token for all nodes from i on
abbrev pub dealing : Opening → ℕ → View
dealing o i = dealt_to o i o.quorums.nodes

-- the seat of node i
abbrev pub dealt : Opening → ℕ → View
dealt o i = dealt_to o i (i + 1)

-- a token gives its first node's seat away, and keeps the others
abbrev pub dealing_rest : View → View
dealing_rest v = dealing v.opening (v.first + 1)

abbrev pub dealing_seat : View → View
dealing_seat v = dealt v.opening v.first

-- a seat's witness, which has seen what it has seen and steps for nobody
abbrev pub witness : View → View
witness v = record v { first = 0; end = 0 }

-- a seat once it was told what a witness has seen
abbrev pub informed : View → View → View
informed v w = record v { told = w.seen; told_by = w.opening }

-- sizes of no node
abbrev pub no_sizes : Sizes
no_sizes = sizes 0 0 0

-- who has told what it knew
abbrev pub nobody : View
nobody =
    record {
      live = false;
      opening = record { quorums = no_sizes; kept = [] };
      first = 0;
      end = 0;
      seen = [];
      told = [];
      told_by = record { quorums = no_sizes; kept = [] };
      node = node_with 0 no_sizes nothing_kept;
    }
