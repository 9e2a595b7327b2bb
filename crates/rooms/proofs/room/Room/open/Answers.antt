-- Why `open` meets its clauses `ok` and `unsettled`, and it may call `seats_of`.
use Rattle.std.proofs.Common.{sym, ap, ◌∙◌, arith}
use Rattle.rooms_seat.specs.Opening.{Opening}
use Rattle.rooms.proofs.Filled.{fit_offers}
use Rattle.rooms.proofs.Openings.{opened_all}
use Rattle.rooms.proofs.room.Room.open.Goals as goal

pub seats_of-requires-after_bounds : goal.seats_of-requires-after_bounds
seats_of-requires-after_bounds g c κs within = (
  omega arith,
  (
    c.in-Ok.ensures.next,
    (
      c.requires.offers.size ∙ (c.requires.size ∙ sym (ap (λ (o : Opening). o.quorums.nodes) c.in-Ok.ensures.opening)),
      fit_offers c.args.quorums c.args.kept.now c.args.offers.items c.in-Ok.dealer.opening c.requires.size c.in-Ok.ensures.opening c.requires.offers,
    ),
  ),
)

pub returns-clause-ok : goal.returns-clause-ok
returns-clause-ok g c =
    opened_all (λ v. v.items) c.args.quorums c.args.kept.now c.args.offers.items c.in-Ok.dealer c.seats_of.result c.in-Ok.ensures.opening c.seats_of.ensures.ok

pub returns-clause-unsettled : goal.returns-clause-unsettled
returns-clause-unsettled g c = (λ bad. absurd (c.seats_of.ensures.settled bad), λ no. absurd (no (c.settled.ensures.0 c.if-not-settled.false)))
