-- Why `meet` meets its clauses `met`, `first_stays`, `second_stays`, `first_sound` and 4 more.
use Rattle.std.proofs.Common.{◌≡◌, Option, None, refl, sym, subst, ◌∙◌, inl, inr}
use Rattle.std.proofs.lemmas.List.{with_items_is}
use Rattle.std.specs.Vec.{with_items}
use Rattle.farm_nodes_meet_seats.specs.Held.{held_of}
use Rattle.farm_nodes_turn_node.specs.declared.halted.Halted.{Halted}
use Rattle.farm_nodes_turn_node.specs.Waiting.{IsWaiting}
use Rattle.farm_nodes_turn_node.proofs.Whole.{none_of, not_none}
use Rattle.farm_nodes_meet_seats.specs.Texts.{pass_texts}
use Rattle.farm_nodes_meet_seats.proofs.Places.{strangers_uncounted}
use Rattle.farm_nodes_meet_nodes.proofs.Kept.{first_kept, second_kept, met_as, sound_kept}
use Rattle.farm_nodes_meet_nodes.proofs.meeting.meet_nodes.Goals as goal

pub returns-then-is_some-clause-met : goal.returns-then-is_some-clause-met
returns-then-is_some-clause-met g c none none' = absurd (not_none c.args.first.now.halted (sym c.is_some.ensures ∙ c.if-is_some.true) none)

pub returns-then-is_some-clause-first_stays : goal.returns-then-is_some-clause-first_stays
returns-then-is_some-clause-first_stays g c = (refl, refl, refl, refl, refl)

pub returns-then-is_some-clause-second_stays : goal.returns-then-is_some-clause-second_stays
returns-then-is_some-clause-second_stays g c = (refl, refl, refl, refl, refl)

pub returns-then-is_some-clause-first_sound : goal.returns-then-is_some-clause-first_sound
returns-then-is_some-clause-first_sound g c is = is

pub returns-then-is_some-clause-second_sound : goal.returns-then-is_some-clause-second_sound
returns-then-is_some-clause-second_sound g c is = is

pub returns-then-is_some-clause-first_waiting : goal.returns-then-is_some-clause-first_waiting
returns-then-is_some-clause-first_waiting g c is = is

pub returns-then-is_some-clause-second_waiting : goal.returns-then-is_some-clause-second_waiting
returns-then-is_some-clause-second_waiting g c is = is

pub returns-then-is_some-clause-strangers : goal.returns-then-is_some-clause-strangers
returns-then-is_some-clause-strangers g c apart = refl

pub returns-then-is_some-2-clause-strangers : goal.returns-then-is_some-2-clause-strangers
returns-then-is_some-2-clause-strangers g c apart = refl

pub returns-then-is_some-2-clause-met : goal.returns-then-is_some-2-clause-met
returns-then-is_some-2-clause-met g c none none' = absurd (not_none c.args.second.now.halted (sym c.is_some-2.ensures ∙ c.if-is_some-2.true) none')

pub returns-then-is_some-2-clause-first_stays : goal.returns-then-is_some-2-clause-first_stays
returns-then-is_some-2-clause-first_stays g c = (refl, refl, refl, refl, refl)

pub returns-then-is_some-2-clause-second_stays : goal.returns-then-is_some-2-clause-second_stays
returns-then-is_some-2-clause-second_stays g c = (refl, refl, refl, refl, refl)

pub returns-then-is_some-2-clause-first_sound : goal.returns-then-is_some-2-clause-first_sound
returns-then-is_some-2-clause-first_sound g c is = is

pub returns-then-is_some-2-clause-second_sound : goal.returns-then-is_some-2-clause-second_sound
returns-then-is_some-2-clause-second_sound g c is = is

pub returns-then-is_some-2-clause-first_waiting : goal.returns-then-is_some-2-clause-first_waiting
returns-then-is_some-2-clause-first_waiting g c is = is

pub returns-then-is_some-2-clause-second_waiting : goal.returns-then-is_some-2-clause-second_waiting
returns-then-is_some-2-clause-second_waiting g c is = is

pub returns : goal.returns
returns g c =
    let disk = g.D.Disk in
    let one : c.args.first.now.halted ≡ None = none_of c.args.first.now.halted (sym c.is_some.ensures ∙ c.if-is_some.false) in
    let other : c.args.second.now.halted ≡ None = none_of c.args.second.now.halted (sym c.is_some-2.ensures ∙ c.if-is_some-2.false) in
    let first_are : (with_items c.args.first.now.seats c.meet_all_seats.new.first).items ≡ c.meet_all_seats.new.first =
    with_items_is c.args.first.now.seats c.meet_all_seats.new.first ((first_kept pass_texts held_of c.deref_mut.result.now c.deref_mut-2.result.now c.meet_all_seats.new.first c.meet_all_seats.new.second c.meet_all_seats.result c.meet_all_seats.ensures).long ∙ c.deref_mut.ensures.len) in
    let second_are : (with_items c.args.second.now.seats c.meet_all_seats.new.second).items ≡ c.meet_all_seats.new.second =
    with_items_is c.args.second.now.seats c.meet_all_seats.new.second ((second_kept pass_texts held_of c.deref_mut.result.now c.deref_mut-2.result.now c.meet_all_seats.new.first c.meet_all_seats.new.second c.meet_all_seats.result c.meet_all_seats.ensures).long ∙ c.deref_mut-2.ensures.len) in
    let met =
    met_as pass_texts held_of c.args.first.now.seats.items c.args.second.now.seats.items (with_items c.args.first.now.seats c.meet_all_seats.new.first).items (with_items c.args.second.now.seats c.meet_all_seats.new.second).items c.deref_mut.result.now c.deref_mut-2.result.now c.meet_all_seats.new.first c.meet_all_seats.new.second c.meet_all_seats.result
    c.deref_mut.ensures.value c.deref_mut-2.ensures.value first_are second_are c.meet_all_seats.ensures in
    record {
      stopped = λ is. elim is [
        | inl stops ↦ absurd (stops one)
        | inr stops ↦ absurd (stops other)
      ];
      met = λ none none'. met;
      strangers =
          strangers_uncounted held_of c.args.first.now.seats.items c.args.second.now.seats.items (with_items c.args.first.now.seats c.meet_all_seats.new.first).items
          (with_items c.args.second.now.seats c.meet_all_seats.new.second).items c.meet_all_seats.result met;
      first_stays = (refl, refl, refl, refl, refl);
      second_stays = (refl, refl, refl, refl, refl);
      first_sound =
          sound_kept pass_texts held_of disk c.args.first.now.log c.args.first.now.seats.items (with_items c.args.first.now.seats c.meet_all_seats.new.first).items c.args.first.now.halted one
          (first_kept pass_texts held_of c.args.first.now.seats.items c.args.second.now.seats.items (with_items c.args.first.now.seats c.meet_all_seats.new.first).items (with_items c.args.second.now.seats c.meet_all_seats.new.second).items c.meet_all_seats.result met);
      second_sound =
          sound_kept pass_texts held_of disk c.args.second.now.log c.args.second.now.seats.items (with_items c.args.second.now.seats c.meet_all_seats.new.second).items c.args.second.now.halted other
          (second_kept pass_texts held_of c.args.first.now.seats.items c.args.second.now.seats.items (with_items c.args.first.now.seats c.meet_all_seats.new.first).items (with_items c.args.second.now.seats c.meet_all_seats.new.second).items c.meet_all_seats.result met);
      first_waiting = λ waiting. subst (λ (h : Option Halted). IsWaiting (with_items c.args.first.now.seats c.meet_all_seats.new.first).items h) (sym one) tt;
      second_waiting = λ waiting. subst (λ (h : Option Halted). IsWaiting (with_items c.args.second.now.seats c.meet_all_seats.new.second).items h) (sym other) tt;
    }
