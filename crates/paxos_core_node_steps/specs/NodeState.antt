-- A node of a room at one moment: all that its calls read and change. Its kept part outlives a restart, the rest does not.
use Rattle.std.specs.Prelude.{ℕ, Bool, false, List, replicate, Option, None}
use Rattle.paxos_core_world.specs.KeptPart.{KeptPart, nothing_kept, with_offer}
use Rattle.paxos_core_world.specs.Quorum.{Sizes}
use Rattle.paxos_core_world.specs.declared.vote.Vote.{Vote}

-- its number, the room's quorums, its kept part, the ballot that it has under way and whether it has proposed under
-- it, by node the promises noted for that ballot with the votes that they report, by node the vote noted last, and the
-- value that it has learned
pub record NodeState : Type 0 where
  pub me : ℕ
  pub quorums : Sizes
  pub kept : KeptPart
  pub ballot : Option ℕ
  pub proposed : Bool
  pub promises : List (Option (Option Vote))
  pub votes : List (Option Vote)
  pub learned : Option ℕ

-- nothing is noted of anybody
abbrev pub nothing_noted : {T : Type 0} → List (Option T)
nothing_noted = replicate 7 None

-- the node that knows its kept part alone
abbrev pub node_with : ℕ → Sizes → KeptPart → NodeState
node_with me quorums kept =
    record {
      me = me;
      quorums = quorums;
      kept = kept;
      ballot = None;
      proposed = false;
      promises = nothing_noted;
      votes = nothing_noted;
      learned = None;
    }

-- a node that has done nothing yet
abbrev pub new_node : ℕ → Sizes → NodeState
new_node me quorums = node_with me quorums nothing_kept

-- after a restart with what was kept
abbrev pub restarted : NodeState → KeptPart → NodeState
restarted s kept = node_with s.me s.quorums kept

-- after its offer
abbrev pub offered : NodeState → NodeState
offered s = record s { kept = with_offer s.kept }
