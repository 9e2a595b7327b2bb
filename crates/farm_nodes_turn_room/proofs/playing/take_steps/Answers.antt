-- Why `take_steps` meets its clauses `stays`, `made`, `by_lot`, `drawn` and 3 more.
use Rattle.std.proofs.Common.{◌≡◌, ◌||◌, option_copied, Some, sym, ◌∙◌, subst}
use Rattle.acceptor_log.specs.Acknowledged.{acknowledged}
use Rattle.farm_nodes_turn_offer.proofs.Results.{Grown, grown_on}
use Rattle.farm_nodes_turn_offer.specs.declared.halt.Halt.{Halt}
use Rattle.farm_nodes_turn_offer.specs.Noted.{pending_of}
use Rattle.farm_nodes_turn_offer.specs.Halted.{fault_by_journal, left_over, HasHaltCause}
use Rattle.farm_nodes_turn_offer.specs.Pending.{IsOfferText, MayPendOn}
use Rattle.farm_nodes_turn_offer.specs.Told.{IsOwnText, TellNew}
use Rattle.farm_nodes_turn_offer.proofs.Leavings.{halt_cause, left_after, told_after}
use Rattle.farm_nodes_turn_leading.specs.Leading.{HasDrawn, OffersNone}
use Rattle.farm_nodes_turn_room.specs.Played.{IsTooLarge}
use Rattle.farm_nodes_turn_room.proofs.Turns.{drawn_taking, if_halted, if_went_on, later_cause, left_acting, lots_taking, made_taking, on_halt, on_result, own_taking, recorded_err, recorded_ok, seat_is, stays_taking}
use Rattle.farm_nodes_turn_room.proofs.playing.take_steps.Goals as goal
use Rattle.farm_nodes_turn_room.proofs.playing.take_steps.Goals.{in-Ok-take_part, in-Err-take_part}

pub returns-clause-stays : goal.returns-clause-stays
returns-clause-stays g c =
    stays_taking c.args.seat.now c.offer_on.new.seat c.seat.inside.words c.take_part.new.seat c.seat.inside.sights c.seat.view_is
    c.offer_on.ensures.seat c.take_part.ensures.remains

pub returns-clause-made : goal.returns-clause-made
returns-clause-made g c =
    made_taking (option_copied c.args.input) c.args.seat.now c.offer_on.new.seat c.seat.inside.words c.take_part.new.seat c.seat.inside.sights c.seat.view_is
    c.offer_on.ensures.made c.take_part.ensures.remains

pub returns-clause-by_lot : goal.returns-clause-by_lot
returns-clause-by_lot g c =
    lots_taking c.args.seat.now c.offer_on.new.seat c.seat.inside.words c.take_part.new.seat c.seat.inside.sights c.seat.view_is
    c.offer_on.ensures.seat c.args.draws.now c.offer_on.new.draws c.take_part.new.draws
    c.offer_on.ensures.words c.take_part.ensures.started c.take_part.ensures.once

pub returns-clause-drawn : goal.returns-clause-drawn
returns-clause-drawn g c =
    let s = c.args.seat.now.words in
    let m = c.seat.inside.words in
    let t = c.take_part.new.seat in
    let none = seat_is (λ u. OffersNone s u.words → c.offer_on.new.draws ≡ c.args.draws.now) c.offer_on.new.seat m c.seat.inside.sights c.seat.view_is c.in-Ok.ensures.drawn in
    let P = HasDrawn c.args.draws.now c.take_part.new.draws s t in
    elim c.match-take_part.branch [
      | in-Ok-take_part w ↦
          on_result P c.match-take_part.result
          (drawn_taking c.args.seat.now c.offer_on.new.seat m t c.seat.inside.sights c.seat.view_is c.offer_on.ensures.seat
          c.args.draws.now c.offer_on.new.draws c.take_part.new.draws none c.take_part.ensures.remains.offered w.in-Ok-take_part.ensures.drawn)
      | in-Err-take_part w ↦ on_halt P c.match-take_part.result w.stopped.result w.result-is
    ]

pub returns-clause-journal : goal.returns-clause-journal
returns-clause-journal g c honest going =
    let disk = g.D.Disk in
    let old = c.args.log.now in
    let mid = c.offer_on.new.log in
    let new = c.take_part.new.log in
    let s = c.args.seat.now.words in
    let m = c.seat.inside.words in
    let t = c.take_part.new.seat in
    let remains = c.take_part.ensures.remains in
    let IsText = IsOfferText g.P.In.Language g.P.Out.Language g.P.Pass in
    let had = IsOwnText IsText record { words = m; sights = c.seat.inside.sights } in
    let has = IsOwnText IsText record { words = t; sights = c.seat.inside.sights } in
    let first = seat_is
    (λ u. Grown disk old mid c.args.room s u.words c.in-Ok.offered
    × TellNew (IsOwnText IsText u) c.args.room s u.words (acknowledged disk.seen old) (acknowledged disk.seen mid))
    c.offer_on.new.seat m c.seat.inside.sights c.seat.view_is (c.in-Ok.ensures.journal honest going) in
    let stays = own_taking IsText m t c.seat.inside.sights remains.me in
    let honest_mid = c.offer_on.ensures.served.honest.1 honest in
    let going_mid = c.in-Ok.ensures.going ∙ going in
    elim c.match-take_part.branch [
      | in-Ok-take_part w ↦
          recorded_ok has disk old new c.args.room s t c.match-take_part.result w.either.result (c.in-Ok.offered || w.in-Ok-take_part.moved)
          w.result-is w.either.ensures
          (grown_on disk old mid new c.args.room s m t c.in-Ok.offered w.in-Ok-take_part.moved
          c.offer_on.ensures.served.header first.0 (w.in-Ok-take_part.ensures.journal honest_mid going_mid))
          (told_after disk had has old mid new c.args.room s m t c.in-Ok.offered w.in-Ok-take_part.moved
          first.0 (w.in-Ok-take_part.ensures.journal honest_mid going_mid) remains.offered stays first.1)
      | in-Err-take_part w ↦
          recorded_err has disk old new c.args.room s t c.match-take_part.result w.stopped.result
          record { fault = fault_by_journal w.in-Err-take_part.stop.error; pending = Some w.in-Err-take_part.stop.pending }
          w.result-is w.stopped.ensures
          (left_after disk had has old mid new c.args.room s m t c.in-Ok.offered _
          c.offer_on.ensures.served.header first.0 remains.offered stays first.1 (w.in-Err-take_part.ensures.journal honest_mid going_mid))
    ]

pub returns-clause-left : goal.returns-clause-left
returns-clause-left g c =
    let IsText = IsOfferText g.P.In.Language g.P.Out.Language g.P.Pass in
    let P = λ (halt : Halt). MayPendOn IsText c.args.room record { words = c.take_part.new.seat; sights = c.seat.inside.sights } halt.pending in
    elim c.match-take_part.branch [
      | in-Ok-take_part w ↦ if_went_on P c.match-take_part.result w.either.result w.result-is
      | in-Err-take_part w ↦
          if_halted P c.match-take_part.result w.stopped.result
          record { fault = fault_by_journal w.in-Err-take_part.stop.error; pending = Some w.in-Err-take_part.stop.pending }
          w.result-is w.stopped.ensures
          (left_acting IsText c.args.room record { words = c.take_part.new.seat; sights = c.seat.inside.sights } w.in-Err-take_part.stop.pending w.in-Err-take_part.ensures.acting)
    ]

pub returns-clause-cause : goal.returns-clause-cause
returns-clause-cause g c going =
    let disk = g.D.Disk in
    let old = c.args.log.now in
    let mid = c.offer_on.new.log in
    let new = c.take_part.new.log in
    let t = c.take_part.new.seat in
    let TooLarge = IsTooLarge g.P.Pass.too_large (option_copied c.args.input) in
    let P = λ (halt : Halt). HasHaltCause disk TooLarge old new (left_over c.args.room t halt.pending) halt.fault in
    elim c.match-take_part.branch [
      | in-Ok-take_part w ↦ if_went_on P c.match-take_part.result w.either.result w.result-is
      | in-Err-take_part w ↦
          if_halted P c.match-take_part.result w.stopped.result
          record { fault = fault_by_journal w.in-Err-take_part.stop.error; pending = Some w.in-Err-take_part.stop.pending }
          w.result-is w.stopped.ensures
          (halt_cause disk TooLarge old new (pending_of c.args.room t w.in-Err-take_part.stop.pending) w.in-Err-take_part.stop.error
          (later_cause disk old mid new (pending_of c.args.room t w.in-Err-take_part.stop.pending) w.in-Err-take_part.stop.error
          c.offer_on.ensures.served.honest c.offer_on.ensures.served.later
          (w.in-Err-take_part.ensures.cause (c.in-Ok.ensures.going ∙ going))))
    ]
