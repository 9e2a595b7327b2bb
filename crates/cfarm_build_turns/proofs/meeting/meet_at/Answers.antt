-- Two of the nodes change, one on each side of the cut.
use Rattle.std.proofs.Common.{◌≡◌, ◌<◌, ◌++◌, suc, None, length, set, sym, ap, subst, ◌∙◌, arith}
use Rattle.std.specs.List.{AllByRecursion, AllZip}
use Rattle.cfarm_build_meeting.proofs.Going.{both_on}
use Rattle.cfarm_build_meeting.proofs.Kept.{first_keeps, second_keeps}
use Rattle.cfarm_build_meeting.specs.Twice.{MeetAt}
use Rattle.cfarm_build_meeting.proofs.Counting.{all_counted, at_place, not_counted}
use Rattle.cfarm_build_meeting.proofs.Cuts.{cut_first, cut_others, cut_second}
use Rattle.cfarm_build_meeting.proofs.Meets.{meets}
use Rattle.cfarm_build_meeting.proofs.Zips.{all_back, all_front, all_get, append, one_set, set_first, set_second}
use Rattle.cfarm_build_turns.specs.Nodes.{NodeStays}
use Rattle.cfarm_build_turns.proofs.Turning.{meets_none}
use Rattle.cfarm_build_turns.proofs.meeting.meet_at.Goals as goal

pub returns-clause-stay : goal.returns-clause-stay
returns-clause-stay g c =
    let at = c.args.number in
    let front = c.split_at_mut-front.result.0.now in
    let back = c.split_at_mut-front.result.1.now in
    let first = c.meet_nodes-count.new.first in
    let second = c.meet_nodes-count.new.second in
    let parts = c.split_at_mut-front.ensures in
    let told = c.meet_nodes-count.ensures in
    let in_front : at < length front = omega (arith, parts.front_len) in
    let in_back : 0 < length back = omega (arith, parts.back_len, c.requires.next) in
    let going = subst (λ l. AllByRecursion (λ n. n.halted ≡ None) l) parts.value c.requires.going in
    let first_going = all_get (λ n. n.halted ≡ None) front at c.index-front-number.result (all_front (λ n. n.halted ≡ None) front back going) in_front in
    let second_going = all_get (λ n. n.halted ≡ None) back 0 c.index-back-0.result (all_back (λ n. n.halted ≡ None) front back going) in_back in
    let met = told.met first_going second_going in
    subst (λ l. AllZip (NodeStays g.D.Disk) l
    (set front at first ++ set back 0 second)) (sym parts.value)
    (append (NodeStays g.D.Disk) front (set front at first) back (set back 0 second)
    (one_set (NodeStays g.D.Disk)
    (meets_none g.D.Disk)
    front at c.index-front-number.result first in_front
    record {
      program = told.first_stays.1;
      log = told.first_stays.0;
      draws = told.first_stays.3;
      halted_same = told.first_stays.4;
      seats_on = (both_on _ _ _ _ _ met).0;
      learned_still = first_keeps _ _ _ _ _ met;
      fit = λ f. (told.first_sound f.0, told.first_waiting f.1);
    })
    (one_set (NodeStays g.D.Disk)
    (meets_none g.D.Disk)
    back 0 c.index-back-0.result second in_back
    record {
      program = told.second_stays.1;
      log = told.second_stays.0;
      draws = told.second_stays.3;
      halted_same = told.second_stays.4;
      seats_on = (both_on _ _ _ _ _ met).1;
      learned_still = second_keeps _ _ _ _ _ met;
      fit = λ f. (told.second_sound f.0, told.second_waiting f.1);
    }))

pub returns-clause-counted : goal.returns-clause-counted
returns-clause-counted g c = λ yes.
    let at = c.args.number in
    let front = c.split_at_mut-front.result.0.now in
    let back = c.split_at_mut-front.result.1.now in
    let first = c.meet_nodes-count.new.first in
    let second = c.meet_nodes-count.new.second in
    let parts = c.split_at_mut-front.ensures in
    let told = c.meet_nodes-count.ensures in
    let in_front : at < length front = omega (arith, parts.front_len) in
    let in_back : 0 < length back = omega (arith, parts.back_len, c.requires.next) in
    let going = subst (λ l. AllByRecursion (λ n. n.halted ≡ None) l) parts.value c.requires.going in
    let first_going = all_get (λ n. n.halted ≡ None) front at c.index-front-number.result (all_front (λ n. n.halted ≡ None) front back going) in_front in
    let second_going = all_get (λ n. n.halted ≡ None) back 0 c.index-back-0.result (all_back (λ n. n.halted ≡ None) front back going) in_back in
    let met = told.met first_going second_going in
    let all = c.is_all.ensures.yes yes in
    let cut : length front ≡ suc at = omega (arith, parts.front_len) in
    at_place (λ n. n.seats.items) (set front at first ++ set back 0 second) at first second
    (set_first front (set back 0 second) at first cut) (set_second front back at first second cut in_back)
    (all_counted _ _ first.seats.items second.seats.items c.meet_nodes-count.result met (all.0 ∙ (c.len.ensures ∙ first.seats.ok.0)) (all.1 ∙ (c.len-2.ensures ∙ second.seats.ok.0)))

pub returns-clause-missed : goal.returns-clause-missed
returns-clause-missed g c = λ no.
    let at = c.args.number in
    let front = c.split_at_mut-front.result.0.now in
    let back = c.split_at_mut-front.result.1.now in
    let first = c.meet_nodes-count.new.first in
    let second = c.meet_nodes-count.new.second in
    let parts = c.split_at_mut-front.ensures in
    let told = c.meet_nodes-count.ensures in
    let in_front : at < length front = omega (arith, parts.front_len) in
    let in_back : 0 < length back = omega (arith, parts.back_len, c.requires.next) in
    let going = subst (λ l. AllByRecursion (λ n. n.halted ≡ None) l) parts.value c.requires.going in
    let first_going = all_get (λ n. n.halted ≡ None) front at c.index-front-number.result (all_front (λ n. n.halted ≡ None) front back going) in_front in
    let second_going = all_get (λ n. n.halted ≡ None) back 0 c.index-back-0.result (all_back (λ n. n.halted ≡ None) front back going) in_back in
    let met = told.met first_going second_going in
    let cut : length front ≡ suc at = omega (arith, parts.front_len) in
    record {
      number = at;
      node = first;
      next = second;
      there = set_first front (set back 0 second) at first cut;
      behind = set_second front back at first second cut in_back;
      missed = not_counted _ _ first.seats.items second.seats.items c.meet_nodes-count.result met
          (λ p q. no (c.is_all.ensures.no (p ∙ sym (c.len.ensures ∙ first.seats.ok.0)) (q ∙ sym (c.len-2.ensures ∙ second.seats.ok.0))));
    }

pub returns-clause-met : goal.returns-clause-met
returns-clause-met g c =
    let at = c.args.number in
    let front = c.split_at_mut-front.result.0.now in
    let back = c.split_at_mut-front.result.1.now in
    let first = c.meet_nodes-count.new.first in
    let second = c.meet_nodes-count.new.second in
    let parts = c.split_at_mut-front.ensures in
    let told = c.meet_nodes-count.ensures in
    let in_front : at < length front = omega (arith, parts.front_len) in
    let in_back : 0 < length back = omega (arith, parts.back_len, c.requires.next) in
    let going = subst (λ l. AllByRecursion (λ n. n.halted ≡ None) l) parts.value c.requires.going in
    let first_going = all_get (λ n. n.halted ≡ None) front at c.index-front-number.result (all_front (λ n. n.halted ≡ None) front back going) in_front in
    let second_going = all_get (λ n. n.halted ≡ None) back 0 c.index-back-0.result (all_back (λ n. n.halted ≡ None) front back going) in_back in
    let met = told.met first_going second_going in
    let cut : length front ≡ suc at = omega (arith, parts.front_len) in
    let whole = ap (λ l. length l) parts.value in
    subst (λ l. MeetAt (λ n. n.seats.items) l (set front at first ++ set back 0 second) at) (sym parts.value)
    (meets (λ n. n.seats.items) (front ++ back) (set front at first ++ set back 0 second) at _ _ first second c.meet_nodes-count.result met
    (omega (arith, c.requires.next, whole)) (cut_first front back at c.index-front-number.result cut) (cut_second front back at c.index-back-0.result cut in_back)
    (set_first front (set back 0 second) at first cut) (set_second front back at first second cut in_back)
    (cut_others front back at first second cut))
