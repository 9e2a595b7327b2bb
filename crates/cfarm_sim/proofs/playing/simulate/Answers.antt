-- Why `simulate` meets its clauses `stopped` and `shown`, and its loop over `rest` keeps the invariant.
use Rattle.std.proofs.Common.{◌≢◌, [], ◌+◌, Option, IfSome, is_some, refl, sym, subst, ap, ◌∙◌, rules}
use Rattle.std.specs.Io.KnownBytes.{Appends}
use Rattle.std.proofs.KnownBytes.{Keeps-refl}
use Rattle.std.proofs.lemmas.Result.{err_from_is_err_and}
use Rattle.paxos_core_world.specs.Quorum.{Sizes}
use Rattle.cfarm_sim_lines.specs.Commands.{IsHead}
use Rattle.cfarm_sim.specs.Plays.{HasObeyedLine, IsShown, closing}
use Rattle.cfarm_output.specs.Begun.{IsBegun}
use Rattle.cfarm_sim.specs.Rooms.{room_of, start}
use Rattle.cfarm_sim.specs.declared.told.Told.{Told}
use Rattle.cfarm_sim.proofs.Cut.{cut, cut_by, cut_going, cut_last, cut_within, shown_by, stopped_at}
use Rattle.cfarm_sim.proofs.Going.{IsGoing, empty, ends, first_going, goes_on, not_empty, shorter, stops}
use Rattle.cfarm_sim.proofs.playing.simulate.Goals as goal

pub loop-rest-init : goal.loop-rest-init
loop-rest-init g c =
    let head = c.next_line.result.0.now in
    let same = sym c.in-Ok.ensures.quorums in
    first_going c.args.schedule.now c.in-Ok.room.quorums head c.next_line.result.1.now (room_of c.in-Ok.room) (g.W.Write.contents c.args.out.now)
    (subst (λ (q : Sizes). IsHead head q) same c.in-Some.ensures.some) c.next_line.ensures.text (c.in-Ok.ensures.start ∙ ap start same)

pub returns-in_default-new-clause-stopped : goal.returns-in_default-new-clause-stopped
returns-in_default-new-clause-stopped g c =
    let q = c.in-Some.quorums in
    let before = g.W.Write.contents c.args.out.now in
    cut_going c.args.schedule.now q 1 c.next_line.result.1.now (start q) before before before
    (first_going c.args.schedule.now q c.next_line.result.0.now c.next_line.result.1.now (start q) before c.in-Some.ensures.some c.next_line.ensures.text refl)
    (Keeps-refl before)

pub returns-in-Ok-None-clause-stopped : goal.returns-in-Ok-None-clause-stopped
returns-in-Ok-None-clause-stopped g c =
    let line = c.next_line-in-loop-rest.result.0.now in
    let more : c.loop-rest.rest.now ≢ [] = not_empty c.loop-rest.rest.now (search rules) in
    let before = g.W.Write.contents c.args.out.now in
    let now = g.W.Write.contents c.loop-rest.out in
    let after = g.W.Write.contents c.stop_at.new.out in
    stopped_at c.stop_at.result c.args.schedule.now (c.loop-rest.number + 1) before now after c.stop_at.ensures.told
    (stops c.args.schedule.now c.loop-rest.room.quorums c.loop-rest.number c.loop-rest.rest.now line (room_of c.loop-rest.room) before now
    c.loop-rest.invariant more c.next_line-in-loop-rest.ensures.line
    (c.in-Ok-None.ensures.none (ap is_some c.in-Ok-None.field-0-is)))
    (cut_going c.args.schedule.now c.loop-rest.room.quorums c.loop-rest.number c.loop-rest.rest.now (room_of c.loop-rest.room) before now after c.loop-rest.invariant c.stop_at.ensures.kept)
    c.stop_at.ensures.kept

pub returns-in-Err-clause-stopped : goal.returns-in-Err-clause-stopped
returns-in-Err-clause-stopped g c =
    let now = g.W.Write.contents c.loop-rest.out in
    cut_going c.args.schedule.now c.loop-rest.room.quorums c.loop-rest.number c.loop-rest.rest.now (room_of c.loop-rest.room) (g.W.Write.contents c.args.out.now) now now
    c.loop-rest.invariant (Keeps-refl now)

pub returns-in_err-print-clause-stopped : goal.returns-in_err-print-clause-stopped
returns-in_err-print-clause-stopped g c =
    let line = c.next_line-in-loop-rest.result.0.now in
    let room = room_of c.loop-rest.room in
    let later = room_of c.obey_line.new.room in
    let told = c.in-Ok-Some.told in
    let did : HasObeyedLine c.loop-rest.room.quorums room line told later =
    subst (λ (o : Option Told). IfSome o (λ t. HasObeyedLine c.loop-rest.room.quorums room line t later)) c.in-Ok-Some.field-0-is c.in-Ok-Some.ensures.some in
    let before = g.W.Write.contents c.args.out.now in
    let after = g.W.Write.contents c.print.new.out in
    let p = err_from_is_err_and c.from_residual.result c.from_residual.ensures.1 in
    rw (p.1, p.2) (cut c.in_err-print.field-0.0 c.args.schedule.now before after c.in_err-print.ensures.err
    (cut_within c.args.schedule.now c.loop-rest.room.quorums c.loop-rest.number c.loop-rest.rest.now line c.next_line-in-loop-rest.result.1.now room later
    before (g.W.Write.contents c.loop-rest.out) after did.0 told
    c.loop-rest.invariant (not_empty c.loop-rest.rest.now (search rules)) c.next_line-in-loop-rest.ensures.text did.1
    did.2 c.in_err-print.ensures.begun))

pub loop-rest-smaller : goal.loop-rest-smaller
loop-rest-smaller g c = shorter c.loop-rest.rest.now c.next_line-in-loop-rest.result.0.now c.next_line-in-loop-rest.result.1.now (not_empty c.loop-rest.rest.now (search rules)) c.next_line-in-loop-rest.ensures.text

pub loop-rest-preserved : goal.loop-rest-preserved
loop-rest-preserved g c =
    let line = c.next_line-in-loop-rest.result.0.now in
    let room = room_of c.loop-rest.room in
    let later = room_of c.obey_line.new.room in
    let told = c.in-Ok-Some.told in
    let did : HasObeyedLine c.loop-rest.room.quorums room line told later =
    subst (λ (o : Option Told). IfSome o (λ t. HasObeyedLine c.loop-rest.room.quorums room line t later)) c.in-Ok-Some.field-0-is c.in-Ok-Some.ensures.some in
    subst (λ (q : Sizes). IsGoing c.args.schedule.now q (c.loop-rest.number + 1) c.next_line-in-loop-rest.result.1.now later (g.W.Write.contents c.args.out.now) (g.W.Write.contents c.print.new.out))
    (sym c.in-Ok-Some.ensures.quorums)
    (goes_on c.args.schedule.now c.loop-rest.room.quorums c.loop-rest.number c.loop-rest.rest.now line c.next_line-in-loop-rest.result.1.now room later
    (g.W.Write.contents c.args.out.now) (g.W.Write.contents c.loop-rest.out) (g.W.Write.contents c.print.new.out) did.0 told
    c.loop-rest.invariant (not_empty c.loop-rest.rest.now (search rules)) c.next_line-in-loop-rest.ensures.text did.1 did.2 c.in_ok-print.ensures.ok)

pub returns-clause-shown : goal.returns-clause-shown
returns-clause-shown g c =
    let room = room_of c.loop-rest.room in
    let before = g.W.Write.contents c.args.out.now in
    let now = g.W.Write.contents c.loop-rest.out in
    let after = g.W.Write.contents c.close.new.out in
    let last = closing c.loop-rest.room.quorums room in
    shown_by c.close.result (Appends now after last) (IsShown c.args.schedule.now before after) c.close.ensures.ok
    (ends c.args.schedule.now c.loop-rest.room.quorums c.loop-rest.number c.loop-rest.rest.now room before now after last c.loop-rest.invariant
    (empty c.loop-rest.rest.now (search rules)) c.agreement.ensures.calls (c.agreement.ensures.empty c.loop-rest.room.quorums) refl)

pub returns-clause-stopped : goal.returns-clause-stopped
returns-clause-stopped g c =
    let room = room_of c.loop-rest.room in
    let before = g.W.Write.contents c.args.out.now in
    let now = g.W.Write.contents c.loop-rest.out in
    let after = g.W.Write.contents c.close.new.out in
    let last = closing c.loop-rest.room.quorums room in
    cut_by c.close.result c.args.schedule.now before after (IsBegun last now after) c.close.ensures.err c.close.ensures.begun
    (cut_last c.args.schedule.now c.loop-rest.room.quorums c.loop-rest.number c.loop-rest.rest.now room before now after last c.loop-rest.invariant
    (empty c.loop-rest.rest.now (search rules)) refl)
