-- Why `play` meets its clauses `stopped` and `played`, and its loop over `rest` keeps the invariant.
use Rattle.std.proofs.Common.{None, rules, subst, sym}
use Rattle.std.specs.String.{string_bytes}
use Rattle.cfarm_sim.specs.Plays.{StopsAt}
use Rattle.cfarm_sim.specs.Rooms.{room_of}
use Rattle.cfarm_sim.proofs.Going.{empty, not_empty, shorter}
use Rattle.cfarm_sim_svg.proofs.Going.{begins, ends, moves, stops}
use Rattle.cfarm_sim_svg.proofs.playing.play.Goals as goal

pub loop-rest-init : goal.loop-rest-init
loop-rest-init c =
    begins c.args.schedule.now c.in-Some.quorums c.next_line.result.0.now c.next_line.result.1.now c.in-Ok.playing c.in-Some.ensures.some c.next_line.ensures.text c.in-Ok.ensures

pub loop-rest-smaller : goal.loop-rest-smaller
loop-rest-smaller c =
    shorter c.loop-rest.rest.now c.next_line-in-loop-rest.result.0.now c.next_line-in-loop-rest.result.1.now (not_empty c.loop-rest.rest.now (search rules)) c.next_line-in-loop-rest.ensures.text

pub loop-rest-preserved : goal.loop-rest-preserved
loop-rest-preserved c =
    moves c.args.schedule.now c.loop-rest.playing c.draw_line.new.playing c.in-Some-checked_add.next c.loop-rest.rest.now
    c.next_line-in-loop-rest.result.0.now c.next_line-in-loop-rest.result.1.now c.loop-rest.invariant (not_empty c.loop-rest.rest.now (search rules))
    c.next_line-in-loop-rest.ensures.text (c.in-Ok-draw_line.ensures.drew (search rules)) (search rules)

pub returns-then-not-drew-clause-stopped : goal.returns-then-not-drew-clause-stopped
returns-then-not-drew-clause-stopped c =
    let now = c.loop-rest.playing in
    let line = c.next_line-in-loop-rest.result.0.now in
    let stopped = stops c.args.schedule.now now.room.quorums now.row c.loop-rest.rest.now line (room_of now.room) now.sent.items (string_bytes now.body)
    c.loop-rest.invariant (not_empty c.loop-rest.rest.now (search rules)) c.next_line-in-loop-rest.ensures.line
    (c.in-Ok-draw_line.ensures.none (search rules)) in
    subst (λ n. StopsAt c.args.schedule.now n None None) (sym c.line_behind-number.ensures) stopped

pub returns-clause-played : goal.returns-clause-played
returns-clause-played c =
    ends c.args.schedule.now c.loop-rest.playing c.loop-rest.rest.now c.loop-rest.invariant (empty c.loop-rest.rest.now (search rules)) c.agreement.ensures.calls
    (c.agreement.ensures.empty c.loop-rest.playing.room.quorums)
