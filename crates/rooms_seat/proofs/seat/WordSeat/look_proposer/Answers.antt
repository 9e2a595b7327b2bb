-- Why `look_proposer` meets its contract, and it may call `load`.
use Rattle.std.proofs.Common.{ℕ, ◌<◌, sym, ap, subst, refl}
use Rattle.paxos_core_world.specs.Quorum.{Sizes}
use Rattle.rooms_meeting.proofs.Looks.{looks_at_proposer}
use Rattle.rooms_meeting.specs.SeatState.{SeatState}
use Rattle.rooms_meeting.proofs.Sweeps.{proposer_kept}
use Rattle.rooms_seat.proofs.Steps.{word_below}
use Rattle.rooms_seat.proofs.seat.WordSeat.look_proposer.Goals as goal

pub load-found-requires : goal.load-found-requires
load-found-requires c =
    let sound = c.self.invariant.sound in
    let low : c.from-place.result < c.self.inside.node.quorums.nodes =
    rw c.from-place.ensures (subst (λ (s : SeatState). c.args.j < s.node.quorums.nodes) (sym c.self.view_is) c.requires) in
    record {
      seated = sound.seated;
      words = sound.words;
      below = (word_below _ sound c.from-place.result low).0;
      allowed = λ o. looks_at_proposer o _ _ c.self.inside.rights.me _ sound.seated;
    }

pub invariant_of-self : goal.invariant_of-self
invariant_of-self c =
    let kept = c.self.invariant in
    let low : c.from-place.result < c.self.inside.node.quorums.nodes =
    rw c.from-place.ensures (subst (λ (s : SeatState). c.args.j < s.node.quorums.nodes) (sym c.self.view_is) c.requires) in
    let found = c.load-found.ensures in
    (proposer_kept c.self.inside.rights.at c.self.inside.proposed c.self.inside.heard c.self.inside.rights.me.0 c.self.inside.node c.self.inside.seen kept c.from-place.result c.args.j c.load-found.result c.from-place.ensures low
    c.unpack.result c.unpack.ensures.started c.unpack.ensures.proposed c.load-found.new.self.at found.at c.load-found.new.self.me.0 (found.told c.from-place.result refl (subst (λ (n : ℕ). c.from-place.result < n) (ap (λ (q : Sizes). q.nodes) kept.sound.quorums) low))).0

pub returns : goal.returns
returns c =
    let kept = c.self.invariant in
    let low : c.from-place.result < c.self.inside.node.quorums.nodes =
    rw c.from-place.ensures (subst (λ (s : SeatState). c.args.j < s.node.quorums.nodes) (sym c.self.view_is) c.requires) in
    let found = c.load-found.ensures in
    rw (← c.self.view_is)
    (proposer_kept c.self.inside.rights.at c.self.inside.proposed c.self.inside.heard c.self.inside.rights.me.0 c.self.inside.node c.self.inside.seen kept c.from-place.result c.args.j c.load-found.result c.from-place.ensures low
    c.unpack.result c.unpack.ensures.started c.unpack.ensures.proposed c.load-found.new.self.at found.at c.load-found.new.self.me.0 (found.told c.from-place.result refl (subst (λ (n : ℕ). c.from-place.result < n) (ap (λ (q : Sizes). q.nodes) kept.sound.quorums) low))).1
