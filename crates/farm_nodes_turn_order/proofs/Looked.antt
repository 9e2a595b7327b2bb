-- A look at a word leaves of the seat's node all but its notes.
use Rattle.std.proofs.Common.{ℕ, ap, ◌∙◌}
use Rattle.rooms_seat.proofs.Looked.{proposed_hearing}
use Rattle.rooms_seat.specs.AcceptorWord.{AcceptorWord}
use Rattle.rooms_seat.specs.ProposerWord.{ProposerWord}
use Rattle.rooms_seat.specs.Did.{LookedAtProposer, LookedAtAcceptor}
use Rattle.rooms_seat.specs.SeatState.{SeatState}
use Rattle.rooms_seat.proofs.Told.{notes_of}
use Rattle.farm_nodes_turn_order.proofs.Orders.{IsSameNode}

pub looked_proposer : (j : ℕ) (x : ProposerWord) (s t : SeatState) → LookedAtProposer j x s t → IsSameNode s t
looked_proposer j x s t look = record {
  me = ap (λ (u : SeatState). u.node.me) look.after;
  quorums = ap (λ (u : SeatState). u.node.quorums) look.after;
  kept = ap (λ (u : SeatState). u.node.kept) look.after;
  ballot = ap (λ (u : SeatState). u.node.ballot) look.after;
  proposed = ap (λ (u : SeatState). u.node.proposed) look.after;
}

pub looked_acceptor : (j : ℕ) (x : AcceptorWord) (s t : SeatState) → LookedAtAcceptor j x s t → IsSameNode s t
looked_acceptor j x s t look =
    let notes = notes_of j x s t look in
    record {
      me = notes.me;
      quorums = notes.quorums;
      kept = notes.kept;
      ballot = notes.ballot;
      proposed = ap (λ (u : SeatState). u.node.proposed) look.after ∙ proposed_hearing s.node j x.promised x.accepted;
    }
