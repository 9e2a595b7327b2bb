-- Why `play` meets its clauses `stays`, `made` and `journal`.
use Rattle.std.proofs.Common.{option_copied, ap, ◌∙◌}
use Rattle.rooms_seat_state.specs.SeatState.{SeatState}
use Rattle.farm_nodes_turn_offer.specs.Pending.{IsOfferText}
use Rattle.farm_nodes_turn_room.specs.Played.{progress_of}
use Rattle.farm_nodes_turn_room.proofs.Turns.{made_on, played_seeing, stays_seeing}
use Rattle.farm_nodes_turn_room.proofs.playing.play.Goals as goal

pub returns-clause-stays : goal.returns-clause-stays
returns-clause-stays g c =
    stays_seeing c.args.seat.now c.take_steps.new.seat c.fetch_learned.new.seat c.take_steps.ensures.stays
    c.fetch_learned.ensures.words c.fetch_learned.ensures.room c.fetch_learned.ensures.seen

pub returns-clause-made : goal.returns-clause-made
returns-clause-made g c =
    made_on (option_copied c.args.input) c.args.seat.now c.take_steps.new.seat c.fetch_learned.new.seat c.take_steps.ensures.made
    (ap (λ (u : SeatState). u.node.me) c.fetch_learned.ensures.words)
    (ap (λ (u : SeatState). u.node.kept.offered) c.fetch_learned.ensures.words)
    c.fetch_learned.ensures.seen

pub returns-clause-journal : goal.returns-clause-journal
returns-clause-journal g c honest going =
    let disk = g.D.Disk in
    played_seeing (IsOfferText g.P.In.Language g.P.Out.Language g.P.Pass) disk c.args.log.now c.take_steps.new.log c.args.room c.args.seat.now.words
    c.take_steps.new.seat c.fetch_learned.new.seat c.in-Ok.moved c.of.result c.fetch_learned.ensures.words c.fetch_learned.ensures.seen (c.in-Ok.ensures.journal honest going)
    (c.of.ensures
    ∙ (ap (λ o. progress_of o c.learned.result c.in-Ok.moved) c.learned-before.ensures.value
    ∙ ap (λ o. progress_of c.args.seat.now.words.node.learned o c.in-Ok.moved) c.learned.ensures.value))
