-- Meetings behind meetings.
use Rattle.std.proofs.Common.{refl, subst, sym, ◌∙◌, true≢false, arith}
use Rattle.cfarm_build_meeting.proofs.Counting.{all_there, none_back, one_back}
use Rattle.cfarm_build_meeting.proofs.Twice.{back_begins, back_on, forth_begins, forth_on, met_twice}
use Rattle.cfarm_build_meeting.proofs.Zips.{all_same, as_long}
use Rattle.cfarm_build_meeting.specs.Counted.{AreCountedAt}
use Rattle.cfarm_build_turns.specs.Nodes.{HasFewFunctions, NodeStays}
use Rattle.cfarm_build_turns.proofs.Turning.{going_still, meets_none, meets_through, stays_through, such_still}
use Rattle.cfarm_build_turns.proofs.meeting.meet_neighbours.Goals as goal

pub loop-next-init : goal.loop-next-init
loop-next-init g c = record {
  forth = forth_begins (λ n. n.seats.items) (NodeStays g.D.Disk) (λ n m it. it.seats_on) c.args.nodes.now
      (all_same (NodeStays g.D.Disk) (meets_none g.D.Disk) c.args.nodes.now);
  counted = λ yes k is. absurd (omega (arith, is));
  missed = λ no. absurd (no refl);
}

pub loop-next-preserved : goal.loop-next-preserved
loop-next-preserved g c =
    let next = c.loop-next in
    let stay = next.invariant.forth.stay in
    let there = as_long (NodeStays g.D.Disk) c.args.nodes.now next.nodes stay in
    record {
      forth = forth_on (λ n. n.seats.items) (NodeStays g.D.Disk) (λ n m it. it.seats_on) c.args.nodes.now next.nodes _ next.next _ next.invariant.forth
          (omega (arith, next.invariant.forth.next_is)) (omega (arith, there, c.loop-next-test.true)) c.meet_at-counted.ensures.met
          (meets_through g.D.Disk _ _ _ stay c.meet_at-counted.ensures.stay);
      counted = λ yes k is. subst (λ j. AreCountedAt (λ n. n.seats.items) c.meet_at-counted.new.nodes j) (omega (arith, is)) (c.meet_at-counted.ensures.counted yes);
      missed = c.meet_at-counted.ensures.missed;
    }

pub loop-done-init : goal.loop-done-init
loop-done-init g c =
    let next = c.loop-next in
    record {
      stay = next.invariant.forth.stay;
      twice = back_begins (λ n. n.seats.items) (NodeStays g.D.Disk) (λ n m it. it.seats_on) c.args.nodes.now next.nodes next.next next.invariant.forth
          (omega (arith, c.loop-next-test.false)) (λ k is. next.invariant.counted c.if-not-counted.false k is)
          (all_same (NodeStays g.D.Disk) (meets_none g.D.Disk) next.nodes);
      back = none_back (λ n. n.seats.items) next.nodes;
    }

pub loop-done-preserved : goal.loop-done-preserved
loop-done-preserved g c =
    let done = c.loop-done in
    let there = as_long (NodeStays g.D.Disk) c.args.nodes.now done.nodes done.invariant.stay in
    record {
      stay = meets_through g.D.Disk _ _ _ done.invariant.stay c.meet_at.ensures.stay;
      twice = back_on (λ n. n.seats.items) (NodeStays g.D.Disk) (λ n m it. it.seats_on) c.args.nodes.now done.nodes _ done.done _ done.invariant.twice
          (omega (arith, there, c.loop-done-test.true)) c.meet_at.ensures.met c.meet_at.ensures.stay (stays_through g.D.Disk);
      back = one_back (λ n. n.seats.items) (NodeStays g.D.Disk) (λ n m it. it.seats_on) (λ n m it. it.learned_still) done.done _ done.nodes _ c.meet_at.ensures.stay
          (omega (arith, there, c.loop-done-test.true)) (c.meet_at.ensures.counted c.if-not-meet_at.false) done.invariant.back;
    }

pub meet_at-counted-requires-clause-few : goal.meet_at-counted-requires-clause-few
meet_at-counted-requires-clause-few g c =
    such_still g.D.Disk HasFewFunctions c.args.nodes.now c.loop-next.nodes c.loop-next.invariant.forth.stay c.requires.few

pub meet_at-counted-requires-clause-going : goal.meet_at-counted-requires-clause-going
meet_at-counted-requires-clause-going g c = going_still g.D.Disk c.args.nodes.now c.loop-next.nodes c.loop-next.invariant.forth.stay c.requires.going

pub meet_at-requires-clause-few : goal.meet_at-requires-clause-few
meet_at-requires-clause-few g c =
    such_still g.D.Disk HasFewFunctions c.args.nodes.now c.loop-done.nodes c.loop-done.invariant.stay c.requires.few

pub meet_at-requires-clause-going : goal.meet_at-requires-clause-going
meet_at-requires-clause-going g c = going_still g.D.Disk c.args.nodes.now c.loop-done.nodes c.loop-done.invariant.stay c.requires.going

pub returns-then-not-meet_at-clause-stay : goal.returns-then-not-meet_at-clause-stay
returns-then-not-meet_at-clause-stay g c = meets_through g.D.Disk _ _ _
    c.loop-done.invariant.stay c.meet_at.ensures.stay

pub returns-clause-stay : goal.returns-clause-stay
returns-clause-stay g c = c.loop-done.invariant.stay

pub returns-clause-counted : goal.returns-clause-counted
returns-clause-counted g c = λ yes.
    let done = c.loop-done in
    let there = as_long (NodeStays g.D.Disk) c.args.nodes.now done.nodes done.invariant.stay in
    all_there (λ n. n.seats.items) done.done done.nodes (omega (arith, there, c.loop-done-test.false)) done.invariant.back

pub returns-clause-twice : goal.returns-clause-twice
returns-clause-twice g c = λ yes.
    let done = c.loop-done in
    let there = as_long (NodeStays g.D.Disk) c.args.nodes.now done.nodes done.invariant.stay in
    met_twice (λ n. n.seats.items) (NodeStays g.D.Disk) (λ n m it. it.seats_on) c.args.nodes.now done.nodes done.done
    (omega (arith, there, c.loop-done-test.false)) done.invariant.twice
    (all_there (λ n. n.seats.items) done.done done.nodes (omega (arith, there, c.loop-done-test.false)) done.invariant.back)

pub returns-then-not-counted-clause-stay : goal.returns-then-not-counted-clause-stay
returns-then-not-counted-clause-stay g c = c.loop-next.invariant.forth.stay

pub returns-then-not-counted-clause-missed : goal.returns-then-not-counted-clause-missed
returns-then-not-counted-clause-missed g c = λ no. c.loop-next.invariant.missed (λ yes. true≢false (sym yes ∙ c.if-not-counted.true))
