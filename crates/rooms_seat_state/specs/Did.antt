-- What a call of a seat does: at most one step of the protocol, and with a proposal an offer.
use Rattle.std.specs.Prelude.{◌≡◌, ◌≢◌, ℕ, [], Option, Some, slice_set}
use Rattle.paxos_core_node_steps.specs.NodeState.{restarted}
use Rattle.paxos_core_node_steps.specs.Would.{after_act}
use Rattle.paxos_core_node_steps.specs.declared.step.Act.{Act}
use Rattle.rooms_words.specs.declared.acceptor.AcceptorWord.{AcceptorWord}
use Rattle.rooms_words.specs.declared.proposer.ProposerWord.{ProposerWord}
use Rattle.rooms_words.specs.Heard.{after_hearing, taken_by_hearing}
use Rattle.rooms_words.specs.NotBelow.{ProposerNotBelow, AcceptorNotBelow}
use Rattle.rooms_words.specs.Steps.{Advances, Took, Forgot}
use Rattle.rooms_words.specs.declared.view.View.{View}
use Rattle.rooms_words.specs.WordsOf.{proposed_by}
use Rattle.rooms_seat_state.specs.SeatState.{SeatState, seen_world, proposer_of, acceptor_of}

-- the seat looked at node j's proposer and saw this: what stands in the world then seen, not below what it saw before, and of
-- its own node what that keeps and has proposed
pub record LookedAtProposer (j : ℕ) (x : ProposerWord) (old new : SeatState) : Type 0 where
  pub advances : Advances old.view [] old.view.node new.view
  pub after : new ≡ record old { view = new.view; proposers = slice_set old.proposers j x }
  pub started : x.started ≡ ((seen_world new).nodes j).started
  pub proposed : x.proposed ≡ proposed_by (seen_world new) j
  pub below : ProposerNotBelow x.started x.proposed (proposer_of old j).started (proposer_of old j).proposed
  pub own : j ≡ old.node.me → (x.started ≡ old.node.kept.started) × (x.proposed ≡ old.proposed)

-- the same of node j's acceptor; the node notes what it saw and may learn
pub record LookedAtAcceptor (j : ℕ) (x : AcceptorWord) (old new : SeatState) : Type 0 where
  pub advances : Advances old.view (taken_by_hearing old.view.node j x.promised x.accepted) (after_hearing old.view.node j x.promised x.accepted) new.view
  pub after : new ≡ record old { view = new.view; node = after_hearing old.node j x.promised x.accepted; acceptors = slice_set old.acceptors j x }
  pub promised : x.promised ≡ ((seen_world new).nodes j).promised
  pub accepted : x.accepted ≡ ((seen_world new).nodes j).accepted
  pub below : AcceptorNotBelow x.promised x.accepted (acceptor_of old j).promised (acceptor_of old j).accepted
  pub own : j ≡ old.node.me → (x.promised ≡ old.node.kept.promised) × (x.accepted ≡ old.node.kept.accepted)

-- the seat did what it was asked; p is then what its node has proposed under the ballot started last
pub record Did (a : Act) (p : Option ℕ) (old new : SeatState) : Type 0 where
  pub took : Took a old.view new.view
  pub after : new ≡ record old { view = new.view; node = after_act old.node a; proposed = p }

-- what a look at node j's acceptor leaves: all but the notes, and what was learned before
pub record NotesOf (j : ℕ) (old new : SeatState) : Type 0 where
  pub table : new.table ≡ old.table
  pub me : new.node.me ≡ old.node.me
  pub quorums : new.node.quorums ≡ old.node.quorums
  pub kept : new.node.kept ≡ old.node.kept
  pub ballot : new.node.ballot ≡ old.node.ballot
  pub proposers : new.proposers ≡ old.proposers
  pub others : (i : ℕ) → i ≢ j → acceptor_of new i ≡ acceptor_of old i
  pub learned : (v : ℕ) → old.node.learned ≡ Some v → new.node.learned ≡ Some v

-- the seat forgot what its node does not keep, by one load of each of its own words; what it last saw of words stays
pub record Forgotten (old new : SeatState) : Type 0 where
  pub between : View
  pub first : Forgot old.view between
  pub second : Forgot between new.view
  pub after : new ≡ record old { view = new.view; node = restarted old.node old.node.kept }
