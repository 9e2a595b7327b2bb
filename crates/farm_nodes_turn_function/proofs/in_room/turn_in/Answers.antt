-- Why `turn_in` meets its clauses `others`, `count`, `leaves`, `after` and 6 more.
use Rattle.std.proofs.Common.{◌≡◌, ℕ, ◌<◌, length, set, length-set, sym, ◌∙◌, subst}
use Rattle.farm_nodes_turn_passes.specs.Halt.{Halt}
use Rattle.farm_nodes_turn_passes.specs.Halted.{left_over, HasHaltCause}
use Rattle.farm_nodes_turn_passes.specs.declared.which.Which.{Which}
use Rattle.farm_nodes_turn_passes.specs.Numbers.{function_of, pass_of}
use Rattle.farm_nodes_turn_passes.specs.Pending.{HasPending, HavePending}
use Rattle.farm_nodes_turn_room.specs.Played.{Played}
use Rattle.farm_nodes_turn_passes.specs.Fours.{four_of, words_of}
use Rattle.farm_nodes_turn_passes.specs.Texts.{pass_texts, IsOwnTextIn}
use Rattle.farm_nodes_turn_function.specs.Turned.{DrawsIn, IsTooLargeFor, LeavesSeats, StandsAfter}
use Rattle.farm_nodes_turn_function.specs.Turns.{AtPlace, HaltsIn, PlayedIn}
use Rattle.farm_nodes_turn_function.proofs.Inputs.{if_err, on_ok}
use Rattle.farm_nodes_turn_function.proofs.Pending.{with_all}
use Rattle.farm_nodes_turn_function.proofs.Places.{off_set, place_set, set_at}
use Rattle.farm_nodes_turn_function.proofs.in_room.turn_in.Goals as goal

pub returns-clause-others : goal.returns-clause-others
returns-clause-others g c f other =
    off_set c.args.seats.now.items c.from.result f c.play_in.new.numbered (λ (e : f ≡ c.from.result). other (e ∙ c.from.ensures))

pub returns-clause-count : goal.returns-clause-count
returns-clause-count g c = length-set c.args.seats.now.items c.from.result c.play_in.new.numbered

pub returns-clause-leaves : goal.returns-clause-leaves
returns-clause-leaves g c =
    place_set four_of (LeavesSeats c.args.function.now (pass_of c.args.room)) c.args.seats.now.items c.from.result (function_of c.args.room)
    c.in-Some.four.now c.play_in.new.numbered c.from.ensures c.in-Some.ensures.value
    (subst (λ (p : Which). LeavesSeats c.args.function.now p (four_of c.in-Some.four.now) (four_of c.play_in.new.numbered)) c.of_room.ensures
    (record { stays = c.play_in.ensures.stays; others = c.play_in.ensures.others; made = c.play_in.ensures.made }))

pub returns-clause-after : goal.returns-clause-after
returns-clause-after g c =
    let old = four_of c.in-Some.four.now in
    let new = four_of c.play_in.new.numbered in
    let pass = c.of_room.result in
    let draws = c.args.draws.now in
    let drawn = c.play_in.new.draws in
    on_ok c.play_in.result (StandsAfter pass draws drawn old new)
    (AtPlace four_of (StandsAfter (pass_of c.args.room) draws drawn) (function_of c.args.room) c.args.seats.now.items (set c.args.seats.now.items c.from.result c.play_in.new.numbered))
    (λ after.
    place_set four_of (StandsAfter (pass_of c.args.room) draws drawn) c.args.seats.now.items c.from.result (function_of c.args.room)
    c.in-Some.four.now c.play_in.new.numbered c.from.ensures c.in-Some.ensures.value
    (subst (λ (p : Which). StandsAfter p draws drawn old new) c.of_room.ensures after))
    c.play_in.ensures.after

pub returns-clause-draws : goal.returns-clause-draws
returns-clause-draws g c =
    let draws = c.args.draws.now in
    let drawn = c.play_in.new.draws in
    place_set four_of (DrawsIn (pass_of c.args.room) draws drawn) c.args.seats.now.items c.from.result (function_of c.args.room)
    c.in-Some.four.now c.play_in.new.numbered c.from.ensures c.in-Some.ensures.value
    (subst (λ (p : Which). DrawsIn p draws drawn (four_of c.in-Some.four.now) (four_of c.play_in.new.numbered)) c.of_room.ensures c.play_in.ensures.draws)

pub returns-clause-journal : goal.returns-clause-journal
returns-clause-journal g c honest going =
    let disk = g.D.Disk in
    let old = four_of c.in-Some.four.now in
    let new = four_of c.play_in.new.numbered in
    place_set four_of (PlayedIn pass_texts disk c.args.log.now c.play_in.new.log c.args.room c.play_in.result)
    c.args.seats.now.items c.from.result (function_of c.args.room)
    c.in-Some.four.now c.play_in.new.numbered c.from.ensures c.in-Some.ensures.value
    (subst (λ (p : Which). Played (IsOwnTextIn pass_texts p new) disk c.args.log.now c.play_in.new.log c.args.room (words_of old p) (words_of new p) c.play_in.result) c.of_room.ensures
    (c.play_in.ensures.journal honest going))

pub returns-clause-cause : goal.returns-clause-cause
returns-clause-cause g c going =
    let disk = g.D.Disk in
    let old = four_of c.in-Some.four.now in
    let new = four_of c.play_in.new.numbered in
    let cause = λ (p : Which) (halt : Halt).
    HasHaltCause disk (IsTooLargeFor c.args.function.now p old)
    c.args.log.now c.play_in.new.log (left_over c.args.room (words_of new p) halt.pending) halt.fault in
    if_err c.play_in.result (cause c.of_room.result)
    (λ (halt : Halt). AtPlace four_of
    (HaltsIn disk (IsTooLargeFor c.args.function.now (pass_of c.args.room)) c.args.log.now c.play_in.new.log c.args.room halt)
    (function_of c.args.room) c.args.seats.now.items (set c.args.seats.now.items c.from.result c.play_in.new.numbered))
    (λ halt told.
    place_set four_of
    (HaltsIn disk (IsTooLargeFor c.args.function.now (pass_of c.args.room)) c.args.log.now c.play_in.new.log c.args.room halt)
    c.args.seats.now.items c.from.result (function_of c.args.room)
    c.in-Some.four.now c.play_in.new.numbered c.from.ensures c.in-Some.ensures.value
    (subst (λ (p : Which). cause p halt) c.of_room.ensures told))
    (c.play_in.ensures.cause going)

pub returns-clause-left : goal.returns-clause-left
returns-clause-left g c =
    let items = c.args.seats.now.items in
    let new = c.play_in.new.numbered in
    if_err c.play_in.result
    (λ (halt : Halt). HasPending new c.args.room c.of_room.result halt.pending)
    (λ (halt : Halt). HavePending (set items c.from.result new) c.args.room halt.pending)
    (λ halt is.
    with_all (set items c.from.result new) new c.args.room halt.pending
    (set_at items c.from.result (function_of c.args.room) new c.from.ensures (subst (λ (k : ℕ). k < length items) (sym c.from.ensures) c.requires.room))
    (subst (λ (w : Which). HasPending new c.args.room w halt.pending) c.of_room.ensures is))
    c.play_in.ensures.left

pub returns-clause-served : goal.returns-clause-served
returns-clause-served g c = c.play_in.ensures.served

pub returns-clause-going : goal.returns-clause-going
returns-clause-going g c = c.play_in.ensures.going
