-- Why `offer` meets its contract.
use Rattle.std.proofs.Common.{◌≡◌, ◌<◌, ◌≤◌, true, false, ◌∙◌, ap, sym, arith}
use Rattle.std.specs.Arc.{arc_value}
use Rattle.paxos_core_world.specs.KeptPart.{KeptPart}
use Rattle.rooms_seat.specs.SeatState.{SeatState}
use Rattle.rooms.proofs.Offers.{stands}
use Rattle.rooms.proofs.seat.Seat.offer.Goals as goal

pub returns-in-Yes : goal.returns-in-Yes
returns-in-Yes g c =
    let unoffered : c.self.inside.words.node.kept.offered ≡ false = sym (c.offered.ensures ∙ ap (λ (k : KeptPart). k.offered) c.kept.ensures) ∙ c.if-offered.false in
    let at : c.from-me.result ≡ c.self.inside.words.node.me = c.from-me.ensures ∙ c.me.ensures.value in
    let number : c.me.result < c.self.inside.words.node.quorums.nodes = c.me.ensures.below in
    let most : c.self.inside.words.node.quorums.nodes ≤ 7 = c.bounds.ensures.most in
    let same : c.from-me.result ≡ c.me.result = c.from-me.ensures in
    rw (← c.self.view_is)
    record {
      offered =
          stands c.put-told.result c.args.offer (arc_value c.args.offer) c.from-me.result record { words = c.self.inside.words; sights = c.self.inside.sights } c.offer.new.self c.put-told.new.self
          c.in-Yes.is at c.put-told.ensures.size (omega arith) unoffered c.offer.ensures c.put-told.ensures.put;
      stands = λ e. let bad : true ≡ false = sym e ∙ unoffered in absurd (cc);
      room = record { table = sym (ap (λ (s : SeatState). s.table) c.offer.ensures); cells = sym c.put-told.ensures.cells };
    }
