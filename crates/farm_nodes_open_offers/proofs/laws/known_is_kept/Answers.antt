-- Why `known_is_kept` meets its contract.
use Rattle.std.proofs.Common.{None, refl, subst, sym, ap, ◌∙◌}
use Rattle.std.specs.Prelude.{unwrap_or}
use Rattle.paxos_core_world.specs.KeptPart.{nothing_kept}
use Rattle.farm_nodes_turn_passes.specs.Numbers.{room_at}
use Rattle.farm_nodes_open_offers.specs.Written.{last_offer_in}
use Rattle.farm_nodes_open_offers.specs.Stored.{IsStoredText}
use Rattle.farm_nodes_open_offers.proofs.Keeping.{offered_both}
use Rattle.farm_nodes_open_offers.proofs.Writing.{known_from, both_there}
use Rattle.farm_nodes_open_offers.proofs.laws.known_is_kept.Goals as goal

pub returns : goal.returns
returns g c = λ pass rs functions stored offers are_stored are_known f below offer got.
    let room = room_at f pass in
    let is : IsStoredText g.P.In.Language g.P.Out.Language g.P.Pass (last_offer_in rs room) offer =
    subst (IsStoredText g.P.In.Language g.P.Out.Language g.P.Pass (last_offer_in rs room))
    (ap (λ o. unwrap_or o None) (sym (are_known.each f below) ∙ got))
    (known_from g.P.In.Language g.P.Out.Language g.P.Pass pass f rs None None stored.rooms.items stored.parts.items tt are_stored.rooms are_stored.texts) in
    offered_both rs room nothing_kept None refl ∙ both_there g.P.In.Language g.P.Out.Language g.P.Pass (last_offer_in rs room) offer is
