-- Why `meet_in_function` meets its contract.
use Rattle.std.proofs.Common.{◌↔◌, Bool, sym, subst}
use Rattle.std.specs.Prelude.{IsTrue}
use Rattle.farm_nodes_meet_seats.specs.Functions.{AreOne}
use Rattle.farm_nodes_meet_seats.proofs.FourRooms.{both_told, has_met, held_with, met_in, one_told}
use Rattle.farm_nodes_meet_seats.proofs.functions.meet_in_function.Goals as goal

pub returns : goal.returns
returns g c =
    let first = c.args.first.now in
    let second = c.args.second.now in
    let new = c.meet_numbered-told.new in
    let e = c.meet_numbered-told.ensures in
    has_met (held_with first.claim first.seat) (held_with second.claim second.seat) (held_with new.first.claim new.first.seat) (held_with new.second.claim new.second.seat)
    (met_in first.claim second.claim new.first.claim new.second.claim first.seat second.seat new.first.seat new.second.seat e.first_number e.second_number
    c.meet_numbered-told.result e.strangers e.numbers e.apart e.same e.met)
    c.is_some.result c.and-both.result c.and.result
    (subst (λ (b : Bool). IsTrue b ↔ AreOne (held_with first.claim first.seat) (held_with second.claim second.seat)) (sym c.is_some.ensures)
    (one_told first.claim second.claim new.first.claim new.second.claim first.seat second.seat new.first.seat new.second.seat e.first_number e.second_number
    c.meet_numbered-told.result e.strangers e.same))
    (both_told c.has_all.result c.has_all-2.result c.and-both.result _ _ c.has_all.ensures c.has_all-2.ensures c.and-both.ensures) c.and.ensures
