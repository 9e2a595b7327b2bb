-- Why `deal` may call `deal`.
use Rattle.std.proofs.Common.{◌<◌, sym, subst}
use Rattle.rooms_seat.specs.Dealing.{Dealing}
use Rattle.rooms_meeting.proofs.Openings.{may_deal}
use Rattle.rooms_seat.proofs.opening.Dealer.deal.Goals as goal

pub deal-requires : goal.deal-requires
deal-requires c =
    let h = c.self.invariant in
    let low : c.self.inside.next < c.self.inside.opening.quorums.nodes = subst (λ (s : Dealing). s.next < s.opening.quorums.nodes) (sym c.self.view_is) c.requires in
    (c.self.inside.next, may_deal c.self.inside.rights c.self.inside.opening c.self.inside.next h.words h.view low)
