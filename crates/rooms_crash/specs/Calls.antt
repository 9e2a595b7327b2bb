-- The calls of a seat keep it of its run, where a node starts no ballot before it has offered.
use Rattle.std.specs.Prelude.{◌≡◌, ℕ, ◌<◌, true}
use Rattle.paxos_core_node_steps.specs.NodeState.{offered}
use Rattle.rooms_meeting.specs.SeatAct.{SeatAct}
use Rattle.rooms_meeting.specs.SeatAct.TheVariants as act
use Rattle.rooms_words.specs.declared.acceptor.AcceptorWord.{AcceptorWord}
use Rattle.rooms_meeting.specs.Did.{Forgotten, LookedAtAcceptor, LookedAtProposer}
use Rattle.rooms_words.specs.declared.view.Opening.{Opening}
use Rattle.rooms_words.specs.declared.proposer.ProposerWord.{ProposerWord}
use Rattle.rooms_meeting.specs.SeatState.{SeatState, CanOpen, opened_seat}
use Rattle.rooms_meeting.specs.Would.{Acted}
use Rattle.rooms_meeting.specs.Met.{HaveMet}
use Rattle.rooms_meeting.specs.RoomAt.{RoomAt}
use Rattle.rooms_crash.specs.OfRun.{GoesOn, IsOfRun}

-- to start a ballot it has to have offered
abbrev pub HasOfferedFor : SeatAct → SeatState → Type 0
HasOfferedFor act.Start s = s.node.kept.offered ≡ true
HasOfferedFor (act.Promise j) s = Unit {0}
HasOfferedFor act.Propose s = Unit {0}
HasOfferedFor (act.Accept j) s = Unit {0}

-- ---- the promise

-- A seat is of its run as the room opens, and goes on with each call; whatever it did, it is once it has forgotten.
pub record CallsKeepRun : Type 0 where
  pub opened : (table : RoomAt) (o : Opening) (i : ℕ) → CanOpen o → i < o.quorums.nodes → IsOfRun (opened_seat table o i)
  pub looked_at_proposer : (j : ℕ) (x : ProposerWord) (old new : SeatState) → LookedAtProposer j x old new → GoesOn old new
  pub looked_at_acceptor : (j : ℕ) (x : AcceptorWord) (old new : SeatState) → LookedAtAcceptor j x old new → GoesOn old new
  pub acted : (a : SeatAct) (old new : SeatState) → Acted a old new → HasOfferedFor a old → GoesOn old new
  pub offered : (s : SeatState) → GoesOn s (record s { node = offered s.node })
  pub forgotten : (old new : SeatState) → Forgotten old new → GoesOn old new
  pub done_and_forgotten : (a : SeatAct) (old between new : SeatState) → Acted a old between → Forgotten between new → GoesOn old new
  pub met : (a b a' b' : SeatState) → HaveMet a b a' b' → GoesOn a a' × GoesOn b b'
