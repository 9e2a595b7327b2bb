-- Why `offer_on` meets its clauses `made`, `drawn`, `journal` and `left`.
use Rattle.std.proofs.Common.{rules, ◌≡◌, false, option_copied, refl, sym, ap, subst}
use Rattle.acceptor_log.specs.Acknowledged.{acknowledged}
use Rattle.offers.specs.Text.{text_of}
use Rattle.farm_nodes_turn_offer.specs.declared.halt.Halt.{Halt}
use Rattle.farm_nodes_turn_offer.specs.Halted.{HasLeft, left_over}
use Rattle.farm_nodes_turn_offer.proofs.Leavings.{idle_grown, nothing_left, tell_none}
use Rattle.farm_nodes_turn_offer.specs.Pending.{IsOfferText}
use Rattle.farm_nodes_turn_offer.specs.Told.{IsOwnText}
use Rattle.farm_nodes_turn_room.proofs.Turns.{drawn_offering, left_offering, made_either}
use Rattle.farm_nodes_turn_room.proofs.offering.offer_on.Goals as goal

pub returns-in-Ok-clause-made : goal.returns-in-Ok-clause-made
returns-in-Ok-clause-made g c =
    made_either c.make_offer.result (option_copied c.args.input) c.in-Some.input.now c.in-Ok.offer c.args.seat.now c.make_offer.new.seat
    (ap option_copied c.in-Some.is) c.in-Ok.ensures.input c.make_offer.ensures.ok c.make_offer.ensures.err

pub returns-in-Ok-clause-drawn : goal.returns-in-Ok-clause-drawn
returns-in-Ok-clause-drawn g c =
    let first : c.args.seat.now.words.node.kept.offered ≡ false = search rules in
    drawn_offering c.make_offer.result c.in-Ok.offer c.args.seat.now c.make_offer.new.seat c.args.draws.now c.choose.new.draws first c.make_offer.ensures.ok

pub returns-in-Err-clause-journal : goal.returns-in-Err-clause-journal
returns-in-Err-clause-journal g c honest going =
    let disk = g.D.Disk in
    let log = c.args.log.now in
    let words = c.args.seat.now.words in
    let own = IsOwnText (IsOfferText g.P.In.Language g.P.Out.Language g.P.Pass) c.args.seat.now in
    subst (λ (h : Halt). HasLeft own disk log log c.args.room words words (left_over c.args.room words h.pending)) (sym c.idle.ensures)
    (nothing_left disk own log c.args.room words (c.requires honest going)
    (λ b left. g.met.D.Disk.only_now log.disk b honest left))

pub returns-then-offered-clause-journal : goal.returns-then-offered-clause-journal
returns-then-offered-clause-journal g c honest going =
    let disk = g.D.Disk in
    let log = c.args.log.now in
    let own = IsOwnText (IsOfferText g.P.In.Language g.P.Out.Language g.P.Pass) c.args.seat.now in (
      idle_grown disk log c.args.room c.args.seat.now.words (c.requires honest going)
          (λ b left. g.met.D.Disk.only_now log.disk b honest left),
      tell_none own c.args.room c.args.seat.now.words (acknowledged disk.seen log) (acknowledged disk.seen log),
    )

pub returns-in_default-clause-journal : goal.returns-in_default-clause-journal
returns-in_default-clause-journal g c honest going =
    let disk = g.D.Disk in
    let log = c.args.log.now in
    let own = IsOwnText (IsOfferText g.P.In.Language g.P.Out.Language g.P.Pass) c.args.seat.now in (
      idle_grown disk log c.args.room c.args.seat.now.words (c.requires honest going)
          (λ b left. g.met.D.Disk.only_now log.disk b honest left),
      tell_none own c.args.room c.args.seat.now.words (acknowledged disk.seen log) (acknowledged disk.seen log),
    )

pub returns-in-Ok-clause-left : goal.returns-in-Ok-clause-left
returns-in-Ok-clause-left g c =
    let first : c.args.seat.now.words.node.kept.offered ≡ false = search rules in
    left_offering (IsOfferText g.P.In.Language g.P.Out.Language g.P.Pass) c.args.room (text_of g.P.In.Language g.P.Out.Language g.P.Pass c.in-Ok.offer)
    c.in-Ok.offer c.args.seat.now c.make_offer.new.seat c.make_offer.result
    (record { fits = c.validated.ensures.fits; accepted = c.validated.ensures.accepted; text = refl })
    first c.make_offer.ensures.err c.make_offer.ensures.pending
