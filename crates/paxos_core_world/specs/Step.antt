-- The steps of the protocol (Lamport, Paxos Made Simple, sections 2.2 to 3): what each needs, and what it does.
-- Messages are a growing set: one that is lost is never used, one that is repeated or late is used again or late.
use Rattle.std.specs.Prelude.{◌≡◌, ℕ, ◌<◌, ◌≤◌, ◌⊎◌, Bool, false, IsTrue, ◌∷◌, Option, Some, None}
use Rattle.paxos_core_world.specs.Ballot.{Owns}
use Rattle.paxos_core_world.specs.KeptPart.{KeptPart, with_offer, with_start, with_promise, with_vote, vote}
use Rattle.paxos_core_world.specs.Quorum.{Sizes, IsPromiseQuorum, IsAcceptQuorum}
use Rattle.paxos_core_world.specs.World.{World, Has, put}
use Rattle.paxos_core_world.specs.declared.msg.Msg.TheVariants.{Prepare, Promise, Propose, Accepted}
use Rattle.paxos_core_world.specs.declared.vote.Vote.{Vote}

-- one event: which node does what, under which ballot b, with which value v
pub data Label : Type 0 where
  Offers : (i : ℕ) → Label
  Starts : (i b : ℕ) → Label
  Promises : (a b : ℕ) → Label
  Proposes : (b v : ℕ) → Label
  Accepts : (a b v : ℕ) → Label
  Learns : (i v : ℕ) → Label
  Restarts : (i : ℕ) → Label

-- node v has offered
abbrev pub HasOffered : ℕ → (ℕ → KeptPart) → ℕ → Type 0
HasOffered n nodes v = (v < n) × IsTrue (nodes v).offered

-- a set of nodes, and what each reported with its promise: no report names a vote
abbrev pub NamesNone : ℕ → (ℕ → Bool) → (ℕ → Option Vote) → Type 0
NamesNone n members reports = (a : ℕ) → a < n → IsTrue (members a) → reports a ≡ None

-- v is the value of the vote with the highest ballot that the members' reports name
pub record IsHighest (n : ℕ) (members : ℕ → Bool) (reports : ℕ → Option Vote) (v : ℕ) : Type 0 where
  pub node : ℕ
  pub ballot : ℕ
  pub below : node < n
  pub member : IsTrue (members node)
  pub report : reports node ≡ Some (vote ballot v)
  pub highest : (a : ℕ) (x : Vote) → a < n → IsTrue (members a) → reports a ≡ Some x → x.ballot ≤ ballot

-- what a proposal of v under b rests on: all of some promise quorum sent promises for b, and v is the value of the highest
-- vote that they report or, if they report none, a node that has offered
pub record IsSafeChoice (q : Sizes) (w : World) (b v : ℕ) : Type 0 where
  pub members : ℕ → Bool
  pub reports : ℕ → Option Vote
  pub quorum : IsPromiseQuorum q members
  pub promises : (a : ℕ) → a < q.nodes → IsTrue (members a) → Has (Promise a b (reports a)) w.sent
  pub choice : (NamesNone q.nodes members reports × HasOffered q.nodes w.nodes v) ⊎ IsHighest q.nodes members reports v

-- all of some accept quorum voted for v under the one ballot b
pub record IsChosen (q : Sizes) (w : World) (b v : ℕ) : Type 0 where
  pub members : ℕ → Bool
  pub quorum : IsAcceptQuorum q members
  pub votes : (a : ℕ) → a < q.nodes → IsTrue (members a) → Has (Accepted a b v) w.sent

-- what a step needs, with quorums of these sizes
abbrev pub Allowed : Sizes → World → Label → Type 0
Allowed q w (Offers i) = (i < q.nodes) × ((w.nodes i).offered ≡ false)
Allowed q w (Starts i b) = (i < q.nodes) × Owns q.nodes i b × ((w.nodes i).started < b)
Allowed q w (Promises a b) = (a < q.nodes) × Has (Prepare b) w.sent × ((w.nodes a).promised < b)
Allowed q w (Proposes b v) = Has b w.begun × ((x : ℕ) → ¬ Has (Propose b x) w.sent) × IsSafeChoice q w b v
Allowed q w (Accepts a b v) = (a < q.nodes) × Has (Propose b v) w.sent × ((w.nodes a).promised ≤ b)
Allowed q w (Learns i v) = (i < q.nodes) × ((b : ℕ) × IsChosen q w b v)
Allowed q w (Restarts i) = i < q.nodes

-- what a step does: all that it does not name stays
abbrev pub after : World → Label → World
after w (Offers i) =
    record { nodes = put w.nodes i (with_offer (w.nodes i)); sent = w.sent; begun = w.begun; learned = w.learned }
after w (Starts i b) =
    record {
      nodes = put w.nodes i (with_start b (w.nodes i));
      sent = Prepare b ∷ w.sent;
      begun = b ∷ w.begun;
      learned = w.learned;
    }
after w (Promises a b) =
    record {
      nodes = put w.nodes a (with_promise b (w.nodes a));
      sent = Promise a b (w.nodes a).accepted ∷ w.sent;
      begun = w.begun;
      learned = w.learned;
    }
after w (Proposes b v) =
    record { nodes = w.nodes; sent = Propose b v ∷ w.sent; begun = w.begun; learned = w.learned }
after w (Accepts a b v) =
    record {
      nodes = put w.nodes a (with_vote (vote b v) (w.nodes a));
      sent = Accepted a b v ∷ w.sent;
      begun = w.begun;
      learned = w.learned;
    }
after w (Learns i v) =
    record { nodes = w.nodes; sent = w.sent; begun = w.begun; learned = (i, v) ∷ w.learned }
after w (Restarts i) = w
