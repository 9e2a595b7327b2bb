-- What a seat knows of its room for certain, and what two seats of one room know once they have met.
use Rattle.std.specs.Prelude.{◌≡◌, ◌≢◌, ℕ, zero, suc, ◌<◌, ◌≤◌, ◌⊎◌, Some, IfSome}
use Rattle.paxos_core_world.specs.Ballot.{Owns}
use Rattle.paxos_core_world.specs.KeptPart.{IsWithinPromise}
use Rattle.paxos_core_world.specs.Quorum.{AreQuorums}
use Rattle.paxos_core_world.specs.World.{Has}
use Rattle.paxos_core_world.specs.declared.vote.Vote.{Vote}
use Rattle.rooms_seat_state.specs.LateOffer.{BelongsWithLateOffer}
use Rattle.rooms_seat_state.specs.Proposer.{next_proposal}
use Rattle.rooms_words.specs.Views.{IsLegal, BeginsWith}
use Rattle.rooms_words.specs.declared.acceptor.AcceptorWord.{AcceptorWord}
use Rattle.rooms_words.specs.declared.proposer.ProposerWord.{ProposerWord}
use Rattle.rooms_words.specs.Deal.{informed}
use Rattle.rooms_seat_state.specs.Did.{LookedAtAcceptor, LookedAtProposer}
use Rattle.rooms_words.specs.NotBelow.{AcceptorNotBelow, ProposerNotBelow}
use Rattle.rooms_seat_state.specs.SeatState.{SeatState, seen_world, acceptor_of, proposer_of, vote_of}

-- the run that the seat has seen is one of the protocol; its node belongs to the last world, but that its offer may not stand
-- there yet, and what it has learned is learned there
pub record IsKnown (s : SeatState) : Type 0 where
  pub legal : IsLegal s.view.opening s.view.seen
  pub belongs : BelongsWithLateOffer s.view.opening.quorums (seen_world s) s.view.node
  pub learned : (v : ℕ) → s.node.learned ≡ Some v → Has (s.node.me, v) (seen_world s).learned

-- its numbers: its quorums meet, its node is one of the room, a vote is within the promise, what was seen started is that node's own, and the
-- value of a proposal fits a word; a ballot under way is the one that it started last, what it would propose is a node of the room, and
-- what it would vote for is under another ballot than its last vote
pub record IsBounded (s : SeatState) : Type 0 where
  pub number : s.node.me < s.node.quorums.nodes
  pub most : s.node.quorums.nodes ≤ 7
  pub sizes : AreQuorums s.node.quorums
  pub within : IsWithinPromise s.node.kept.promised s.node.kept.accepted
  pub owned : (j : ℕ) → j < s.node.quorums.nodes → ((proposer_of s j).started ≡ 0) ⊎ Owns s.node.quorums.nodes j (proposer_of s j).started
  pub proposal : (b v : ℕ) → next_proposal s.node ≡ Some (b, v) → v < 256
  pub under_way : (b : ℕ) → s.node.ballot ≡ Some b → (1 ≤ b) × (b ≡ s.node.kept.started)
  pub proposes : (b v : ℕ) → next_proposal s.node ≡ Some (b, v) → v < s.node.quorums.nodes
  pub votes : (j : ℕ) (x : Vote) → j < s.node.quorums.nodes → vote_of s j ≡ Some x → IfSome s.node.kept.accepted (λ y. y.ballot ≢ x.ballot)

-- what looks leave of a seat: it has seen what it had seen and what it was told, and keeps all but its notes and what it saw of words
pub record LookedOn (old new : SeatState) : Type 0 where
  pub seen : BeginsWith new.view.seen old.view.seen
  pub told : BeginsWith new.view.seen old.view.told
  pub told_by : old.view.told_by ≡ old.view.opening
  pub still : new.view.told ≡ old.view.told
  pub opening : new.view.opening ≡ old.view.opening
  pub table : new.table ≡ old.table
  pub me : new.node.me ≡ old.node.me
  pub quorums : new.node.quorums ≡ old.node.quorums
  pub kept : new.node.kept ≡ old.node.kept
  pub ballot : new.node.ballot ≡ old.node.ballot
  pub under_it : new.node.proposed ≡ old.node.proposed
  pub proposed : new.proposed ≡ old.proposed
  pub learned : (v : ℕ) → old.node.learned ≡ Some v → new.node.learned ≡ Some v

-- the seat looked at both words of node j, at its proposer's and then at its acceptor's, and did nothing else
pub record LookedAtBoth (j : ℕ) (old new : SeatState) : Type 0 where
  pub proposer : ProposerWord
  pub acceptor : AcceptorWord
  pub between : SeatState
  pub first : LookedAtProposer j proposer old between
  pub second : LookedAtAcceptor j acceptor between new

-- it looked so at each of the first nodes, of so many, one after another, and did nothing else
abbrev pub LookedAtFirst : ℕ → SeatState → SeatState → Type 0
LookedAtFirst zero old new = new ≡ old
LookedAtFirst (suc j) old new = (between : SeatState) × LookedAtFirst j old between × LookedAtBoth j between new

-- it looked so at every node of its room
abbrev pub LookedAtAll : SeatState → SeatState → Type 0
LookedAtAll old new = LookedAtFirst old.node.quorums.nodes old new

-- it has looked at the nodes before this one, of all that there are
pub record LookedBefore (first : ℕ) (old new : SeatState) : Type 0 where
  pub within : first ≤ old.node.quorums.nodes
  pub same : new.node.quorums ≡ old.node.quorums
  pub looked : LookedAtFirst first old new

-- whoever had looked at the nodes before this one has now looked at all
abbrev pub LooksOnFrom : ℕ → SeatState → SeatState → Type 0
LooksOnFrom first old new = (start : SeatState) → LookedAtFirst first start old → LookedAtFirst old.node.quorums.nodes start new

-- of neither word of a node has the one seen less than the other had
pub record HasSeenNoLess (old new : SeatState) : Type 0 where
  pub proposers : (j : ℕ) → j < new.node.quorums.nodes
      → ProposerNotBelow (proposer_of new j).started (proposer_of new j).proposed (proposer_of old j).started (proposer_of old j).proposed
  pub acceptors : (j : ℕ) → j < new.node.quorums.nodes
      → AcceptorNotBelow (acceptor_of new j).promised (acceptor_of new j).accepted (acceptor_of old j).promised (acceptor_of old j).accepted

-- what a meeting leaves of a seat: which room and node it is, what the node keeps, the ballot under way and what is proposed under it, and
-- what was learned
pub record Remains (old new : SeatState) : Type 0 where
  pub opening : new.view.opening ≡ old.view.opening
  pub table : new.table ≡ old.table
  pub me : new.node.me ≡ old.node.me
  pub quorums : new.node.quorums ≡ old.node.quorums
  pub kept : new.node.kept ≡ old.node.kept
  pub ballot : new.node.ballot ≡ old.node.ballot
  pub under_it : new.node.proposed ≡ old.node.proposed
  pub proposed : new.proposed ≡ old.proposed
  pub learned : (v : ℕ) → old.node.learned ≡ Some v → new.node.learned ≡ Some v

-- the seat once the other has told it what it has seen
abbrev pub told_by : SeatState → SeatState → SeatState
told_by other s = record s { view = informed s.view other.view }

-- Two seats of one room have met: the first told the second what it had seen, the second looked at each word of the room and told the
-- first, which looked at each word. So each has seen what either had seen, and the run of the second is a beginning of the first's.
pub record HaveMet (a b a' b' : SeatState) : Type 0 where
  pub second_looked : LookedAtAll (told_by a b) b'
  pub first_looked : LookedAtAll (told_by b' a) a'
  pub first_sights : HasSeenNoLess a a' × HasSeenNoLess b a'
  pub second_sights : HasSeenNoLess b b' × HasSeenNoLess a b'
  pub opening : a'.view.opening ≡ b'.view.opening
  pub first_own : BeginsWith a'.view.seen a.view.seen
  pub first_other : BeginsWith a'.view.seen b.view.seen
  pub second_own : BeginsWith b'.view.seen b.view.seen
  pub second_other : BeginsWith b'.view.seen a.view.seen
  pub one_run : BeginsWith a'.view.seen b'.view.seen
  pub first : Remains a a'
  pub second : Remains b b'
