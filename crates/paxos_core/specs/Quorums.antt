-- What it takes to learn (Lamport, Paxos Made Simple, section 2.3), over all the calls of a node since a restart.
use Rattle.std.specs.Prelude.{◌≡◌, ℕ, ◌≤◌, List, [], ◌∷◌, ◌++◌, Some, IsSome}
use Rattle.paxos_core_world.specs.KeptPart.{KeptPart, vote}
use Rattle.paxos_core_world.specs.Quorum.{Sizes, AreQuorums, IsAcceptQuorum}
use Rattle.paxos_core.specs.Call.{Call, Offer, Start, Proposal, On, Restart, after_calls}
use Rattle.paxos_core_late_offers.specs.NodeState.{NodeState, node_with}
use Rattle.paxos_core_late_offers.specs.Notes.{note_of, has_voted}

-- none of the calls is a restart
abbrev pub HasNoRestart : List Call → Type 0
HasNoRestart [] = Unit {0}
HasNoRestart (Offer ∷ cs) = HasNoRestart cs
HasNoRestart (Start ∷ cs) = HasNoRestart cs
HasNoRestart (Proposal ∷ cs) = HasNoRestart cs
HasNoRestart (On message ∷ cs) = HasNoRestart cs
HasNoRestart (Restart ∷ cs) = ⊥

-- the votes noted of an accept quorum have this one ballot
abbrev pub HasQuorum : NodeState → ℕ → Type 0
HasQuorum s b = IsAcceptQuorum s.quorums (has_voted s.votes b)

-- at some moment of these calls the votes noted of an accept quorum had one ballot, and a vote under it for v was noted
pub record WasQuorum (s : NodeState) (calls : List Call) (v : ℕ) : Type 0 where
  pub later : List Call
  pub earlier : List Call
  pub split : calls ≡ later ++ earlier
  pub ballot : ℕ
  pub quorum : HasQuorum (after_calls s earlier) ballot
  pub node : ℕ
  pub noted : note_of (after_calls s earlier).votes node ≡ Some (vote ballot v)

-- what a node of a room has learned since a restart, it learned from such a quorum
abbrev pub LearnsFromQuorum : Type 0
LearnsFromQuorum =
    (me : ℕ) (q : Sizes) (kept : KeptPart) (calls : List Call) (v : ℕ) → q.nodes ≤ 7 → HasNoRestart calls
    → (after_calls (node_with me q kept) calls).learned ≡ Some v → WasQuorum (node_with me q kept) calls v

-- and once there was such a quorum, it has learned
abbrev pub QuorumIsLearned : Type 0
QuorumIsLearned =
    (me : ℕ) (q : Sizes) (kept : KeptPart) (later earlier : List Call) (b : ℕ) → AreQuorums q → HasNoRestart (later ++ earlier)
    → HasQuorum (after_calls (node_with me q kept) earlier) b → IsSome (after_calls (node_with me q kept) (later ++ earlier)).learned
