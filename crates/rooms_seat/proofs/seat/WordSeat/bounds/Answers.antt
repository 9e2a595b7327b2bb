-- Why `bounds` meets its contract.
use Rattle.std.proofs.Common.{◌≡◌, ℕ, ◌<◌, ◌⊎◌, get_or, sym, ap, subst, arith}
use Rattle.paxos_core_world.specs.Ballot.{Owns}
use Rattle.paxos_core_world.specs.KeptPart.{KeptPart, IsWithinPromise}
use Rattle.paxos_core_world.specs.Quorum.{AreQuorums, Sizes}
use Rattle.rooms_meeting.specs.SeatState.{SeatState, no_proposer}
use Rattle.rooms_seat.specs.Meeting.{IsBounded}
use Rattle.rooms_meeting.proofs.Acts.{proposed_value}
use Rattle.rooms_meeting.specs.Seen.{proposers_shown}
use Rattle.rooms_seat.proofs.Orders.{ballot_kept, proposed_node, vote_fresh}
use Rattle.rooms_seat.proofs.seat.WordSeat.bounds.Goals as goal

pub returns : goal.returns
returns c =
    let sound = c.self.invariant.sound in
    subst (λ (s : SeatState). IsBounded s) c.self.view_is
    record {
      number = subst (λ (i : ℕ). i < c.self.inside.node.quorums.nodes) c.me-node.ensures.value c.me-node.ensures.below;
      most = sound.most;
      sizes = subst (λ (q : Sizes). AreQuorums q) (sym sound.quorums) sound.legal.sizes;
      within = subst (λ (k : KeptPart). IsWithinPromise k.promised k.accepted) c.kept.ensures c.accepted-vote.ensures.within;
      owned = λ j lt.
          subst (λ (n : ℕ). ((get_or (proposers_shown c.self.inside.seen) j no_proposer).started ≡ 0) ⊎ Owns n j (get_or (proposers_shown c.self.inside.seen) j no_proposer).started) (ap (λ (q : Sizes). q.nodes) (sym sound.quorums))
          (sound.owned j (subst (λ (n : ℕ). j < n) (ap (λ (q : Sizes). q.nodes) sound.quorums) lt));
      proposal = λ b v e. let low : v < 255 = proposed_value _ sound b v e in omega arith;
      under_way = λ b e. ballot_kept _ sound b e;
      proposes = λ b v e. proposed_node _ sound b v e;
      votes = λ j x lt e. vote_fresh _ sound j x lt e;
    }
