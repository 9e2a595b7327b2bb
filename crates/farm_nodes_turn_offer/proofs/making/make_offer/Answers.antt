-- Why `make_offer` meets its clause `journal`.
use Rattle.std.proofs.Common.{refl, sym, ap, subst}
use Rattle.offers.specs.Text.{text_of}
use Rattle.acceptor_log_form.specs.Text.{room_of}
use Rattle.acceptor_log.specs.Acknowledged.{acknowledged}
use Rattle.farm_nodes_turn_step.specs.SeatState.{SeatState}
use Rattle.farm_nodes_turn_step.proofs.Runs.{one, perhaps}
use Rattle.farm_nodes_turn_step.proofs.Steps.{more}
use Rattle.farm_nodes_turn_offer.specs.declared.halt.Halt.{Halt}
use Rattle.farm_nodes_turn_offer.specs.Halted.{HasLeft, left_over}
use Rattle.farm_nodes_turn_offer.specs.Offered.{PutsOffer}
use Rattle.farm_nodes_turn_offer.specs.Pending.{IsOfferText}
use Rattle.farm_nodes_turn_offer.specs.Told.{IsOwnText}
use Rattle.farm_nodes_turn_offer.proofs.Leavings.{nothing_left, offer_follows, offer_goes, same_words, tell_none, tell_offered}
use Rattle.farm_nodes_turn_offer.proofs.making.make_offer.Goals as goal

pub returns-in-Err-clause-journal : goal.returns-in-Err-clause-journal
returns-in-Err-clause-journal g c honest going =
    let disk = g.D.Disk in
    let log = c.args.log.now in
    let words = c.args.seat.now.words in
    let own = IsOwnText (IsOfferText g.P.In.Language g.P.Out.Language g.P.Pass) c.args.seat.now in
    subst (λ (h : Halt). HasLeft own disk log log c.args.room words words (left_over c.args.room words h.pending)) (sym c.idle.ensures)
    (nothing_left disk own log c.args.room words (c.requires.sound honest going)
    (λ b left. g.met.D.Disk.only_now log.disk b honest left))

pub returns-in-Ok-lay-clause-journal : goal.returns-in-Ok-lay-clause-journal
returns-in-Ok-lay-clause-journal g c honest going =
    let disk = g.D.Disk in
    let old = c.args.log.now in
    let new = c.append.new.self in
    let r = c.in-Ok.made.0 in
    let added = c.in-Ok-append.ensures.added honest going in
    let has : PutsOffer c.args.offer c.args.seat.now c.lay.new.seat = subst (λ x. PutsOffer x c.args.seat.now c.lay.new.seat) c.in-Ok.ensures.shared c.in-Ok-lay.ensures.ok in
    let ready = c.append.ensures.sound (c.append.ensures.honest.1 honest) c.in-Ok-append.ensures.ok.1 in (
      record {
        ready = ready;
        advances = one disk old new c.args.room c.args.seat.now.words c.lay.new.seat.words r
            (offer_follows c.args.room _ _ r c.args.seat.now c.lay.new.seat c.in-Ok.ensures.entry c.in-Ok-lay.ensures.ok)
            c.append.ensures.same ready added (c.append.ensures.any_moment honest going);
        moved = more (acknowledged disk.seen old) (acknowledged disk.seen new) r added;
      },
      tell_offered (IsOfferText g.P.In.Language g.P.Out.Language g.P.Pass) c.args.room (text_of g.P.In.Language g.P.Out.Language g.P.Pass c.args.offer) c.args.offer r
          c.args.seat.now c.lay.new.seat (acknowledged disk.seen old) (acknowledged disk.seen new) c.in-Ok.ensures.entry has
          (record { fits = c.validated.ensures.fits; accepted = c.validated.ensures.accepted; text = refl }) added,
    )

pub returns-in-Err-lay-clause-journal : goal.returns-in-Err-lay-clause-journal
returns-in-Err-lay-clause-journal g c honest going =
    let disk = g.D.Disk in
    let old = c.args.log.now in
    let new = c.append.new.self in
    let s = c.args.seat.now.words in
    let same = same_words c.args.seat.now c.lay.new.seat c.in-Err-lay.ensures.err in
    let own = IsOwnText (IsOfferText g.P.In.Language g.P.Out.Language g.P.Pass) c.lay.new.seat in
    subst (λ (t : SeatState). HasLeft own disk old new c.args.room s t (left_over c.args.room t c.offering.result.pending)) (sym same)
    (subst (λ (h : Halt). HasLeft own disk old new c.args.room s s (left_over c.args.room s h.pending)) (sym c.offering.ensures) (
      acknowledged disk.seen old,
      perhaps disk old new c.args.room s c.in-Ok.made.0
          (ap room_of c.in-Ok.ensures.entry)
          (λ last fresh. offer_goes c.args.room _ c.in-Ok.made.0 c.args.seat.now c.in-Ok.ensures.entry c.requires.first last)
          (λ b left later. g.met.D.Disk.counts_now new.disk (disk.moment old.disk) b (c.append.ensures.honest.1 honest) later left)
          (c.append.ensures.any_moment honest going),
      tell_none own c.args.room s (acknowledged disk.seen old) (acknowledged disk.seen old),
    ))

pub returns-in-Err-append-clause-journal : goal.returns-in-Err-append-clause-journal
returns-in-Err-append-clause-journal g c honest going =
    let disk = g.D.Disk in
    let old = c.args.log.now in
    let new = c.append.new.self in
    let s = c.args.seat.now.words in
    let own = IsOwnText (IsOfferText g.P.In.Language g.P.Out.Language g.P.Pass) c.args.seat.now in
    subst (λ (h : Halt). HasLeft own disk old new c.args.room s s (left_over c.args.room s h.pending)) (sym c.offering-in-Err-append.ensures) (
      acknowledged disk.seen old,
      perhaps disk old new c.args.room s c.in-Ok.made.0
          (ap room_of c.in-Ok.ensures.entry)
          (λ last fresh. offer_goes c.args.room _ c.in-Ok.made.0 c.args.seat.now c.in-Ok.ensures.entry c.requires.first last)
          (λ b left later. g.met.D.Disk.counts_now new.disk (disk.moment old.disk) b (c.append.ensures.honest.1 honest) later left)
          (c.append.ensures.any_moment honest going),
      tell_none own c.args.room s (acknowledged disk.seen old) (acknowledged disk.seen old),
    )
