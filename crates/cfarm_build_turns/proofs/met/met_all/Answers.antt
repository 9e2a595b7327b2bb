-- What met in place.
use Rattle.std.proofs.Common.{◌≡◌, None, refl, sym, ap, subst, subst₂, ◌∙◌, true≢false}
use Rattle.std.specs.Arc.{arc_value}
use Rattle.std.specs.List.{AllByRecursion}
use Rattle.cfarm_build_meeting.specs.Alike.{HaveCounted}
use Rattle.cfarm_build_meeting.specs.Neighbours.{EachTwo}
use Rattle.cfarm_build_meeting.proofs.Zips.{all_same}
use Rattle.cfarm_build_turns.specs.Nodes.{AreMissed, HasFewFunctions, NodeStays, NodesMetTwice, failed_of}
use Rattle.cfarm_build_turns.proofs.Lowest.{all_going}
use Rattle.cfarm_build_turns.proofs.Turning.{meets_none, meets_there, new_there}
use Rattle.cfarm_build_turns.proofs.met.met_all.Goals as goal

pub returns-in-Some-clause-stay : goal.returns-in-Some-clause-stay
returns-in-Some-clause-stay g c = all_same (NodeStays g.D.Disk) (meets_none g.D.Disk) c.args.nodes.items

pub returns-in-Some-clause-refused : goal.returns-in-Some-clause-refused
returns-in-Some-clause-refused g c = (ap (λ l. failed_of l) (sym c.deref.ensures.value) ∙ sym c.in-Some.ensures, refl)

pub meet_neighbours-requires-clause-few : goal.meet_neighbours-requires-clause-few
meet_neighbours-requires-clause-few g c =
    subst (λ l. AllByRecursion (λ n. HasFewFunctions (arc_value n.program)) l) (sym c.deref_mut.ensures.value) c.requires.few

pub meet_neighbours-requires-clause-going : goal.meet_neighbours-requires-clause-going
meet_neighbours-requires-clause-going g c =
    subst (λ l. AllByRecursion (λ n. n.halted ≡ None) l) (sym c.deref_mut.ensures.value)
    (all_going (λ n. n.halted) c.args.nodes.items 0
    (ap (λ l. failed_of l) (sym c.deref.ensures.value) ∙ sym c.in_default.ensures))

pub returns-then-not-meet_neighbours-clause-stay : goal.returns-then-not-meet_neighbours-clause-stay
returns-then-not-meet_neighbours-clause-stay g c =
    meets_there g.D.Disk
    c.args.nodes.len c.args.nodes.items c.deref_mut.result.now c.meet_neighbours.new.nodes _ c.deref_mut.ensures.value
    c.args.nodes.ok.0 refl c.meet_neighbours.ensures.stay

pub returns-then-not-meet_neighbours-clause-refused : goal.returns-then-not-meet_neighbours-clause-refused
returns-then-not-meet_neighbours-clause-refused g c =
    let same = new_there g.D.Disk
    c.args.nodes.len c.args.nodes.items c.deref_mut.result.now c.meet_neighbours.new.nodes _ c.deref_mut.ensures.value
    c.args.nodes.ok.0 refl c.meet_neighbours.ensures.stay in (
      ap (λ l. failed_of l) (sym c.deref.ensures.value) ∙ sym c.in_default.ensures,
      subst (λ l. AreMissed (λ n. n.seats.items) l) (sym same) (c.meet_neighbours.ensures.missed (λ yes. true≢false (sym yes ∙ c.if-not-meet_neighbours.true))),
    )

pub returns-clause-going : goal.returns-clause-going
returns-clause-going g c = ap (λ l. failed_of l) (sym c.deref.ensures.value) ∙ sym c.in_default.ensures

pub returns-clause-stay : goal.returns-clause-stay
returns-clause-stay g c =
    meets_there g.D.Disk
    c.args.nodes.len c.args.nodes.items c.deref_mut.result.now c.meet_neighbours.new.nodes _ c.deref_mut.ensures.value
    c.args.nodes.ok.0 refl c.meet_neighbours.ensures.stay

pub returns-clause-counted : goal.returns-clause-counted
returns-clause-counted g c =
    let same = new_there g.D.Disk
    c.args.nodes.len c.args.nodes.items c.deref_mut.result.now c.meet_neighbours.new.nodes _ c.deref_mut.ensures.value
    c.args.nodes.ok.0 refl c.meet_neighbours.ensures.stay in
    subst (λ l. EachTwo (λ n m. HaveCounted n.seats.items m.seats.items) l) (sym same) (c.meet_neighbours.ensures.counted c.if-not-meet_neighbours.false)

pub returns-clause-twice : goal.returns-clause-twice
returns-clause-twice g c =
    let same = new_there g.D.Disk
    c.args.nodes.len c.args.nodes.items c.deref_mut.result.now c.meet_neighbours.new.nodes _ c.deref_mut.ensures.value
    c.args.nodes.ok.0 refl c.meet_neighbours.ensures.stay in
    subst₂ (λ l r. NodesMetTwice l r) c.deref_mut.ensures.value (sym same) (c.meet_neighbours.ensures.twice c.if-not-meet_neighbours.false)
