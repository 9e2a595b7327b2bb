-- What a seat holds of the words of its room: the numbers that it saw last, and which of the words its node has heard.
use Rattle.std.specs.Prelude.{◌≡◌, ℕ, ◌<◌, ◌+◌, ◌==◌, if◌then◌else◌, List, map, slice_set}
use Rattle.rooms_seat_state.specs.Learner.{after_promise}
use Rattle.rooms_seat_state.specs.NodeState.{NodeState}
use Rattle.rooms_rights.specs.declared.seen.SeenWords.{SeenWords}
use Rattle.rooms_rights.specs.Sweep.{seen_of}
use Rattle.rooms_words.specs.declared.acceptor.AcceptorWord.{AcceptorWord}
use Rattle.rooms_words.specs.declared.proposer.ProposerWord.{ProposerWord}
use Rattle.rooms_words.specs.Heard.{after_shown_vote}
use Rattle.rooms_seat_state.specs.SeatState.{SeatState, acceptor_of}
use Rattle.rooms_seat_state.specs.Sound.{IsSound}
use Rattle.rooms_words.specs.Words.{accepted_in, promised_in, proposed_in, started_in}

-- the words that the numbers stand for
abbrev pub proposer_shown : SeenWords → ProposerWord
proposer_shown x = record { started = started_in x.proposer; proposed = proposed_in x.proposer }

abbrev pub acceptor_shown : SeenWords → AcceptorWord
acceptor_shown x = record { promised = promised_in x.acceptor; accepted = accepted_in x.acceptor }

abbrev pub proposers_shown : List SeenWords → List ProposerWord
proposers_shown seen = map proposer_shown seen

abbrev pub acceptors_shown : List SeenWords → List AcceptorWord
acceptors_shown seen = map acceptor_shown seen

-- the number found of node j's acceptor is put down
abbrev pub with_acceptor : List SeenWords → ℕ → ℕ → List SeenWords
with_acceptor seen j found = slice_set seen j (record (seen_of seen j) { acceptor = found })

-- to note again the promise that this word of node j's acceptor shows leaves the node as it is, and so does its vote
pub record IsHeard (s : NodeState) (j : ℕ) (x : AcceptorWord) : Type 0 where
  pub promise : after_promise s j x.promised x.accepted ≡ s
  pub vote : after_shown_vote s j x.accepted ≡ s

-- how many of the first nodes' words are heard, once node j's is
abbrev pub heard_with : ℕ → ℕ → ℕ
heard_with heard j = if heard == j then j + 1 else heard

-- a seat keeps this: of the first so many nodes it has heard the acceptors' words that it saw last
pub record IsKept (heard : ℕ) (s : SeatState) : Type 0 where
  pub sound : IsSound s
  pub heard_so : (j : ℕ) → j < heard → IsHeard s.node j (acceptor_of s j)
