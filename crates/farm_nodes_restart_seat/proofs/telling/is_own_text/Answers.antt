-- Why `is_own_text` meets its contract.
use Rattle.farm_nodes_turn_offer.specs.Pending.{IsOfferText}
use Rattle.farm_nodes_restart_seat.proofs.Offers.{own_if}
use Rattle.farm_nodes_restart_seat.proofs.telling.is_own_text.Goals as goal

pub returns : goal.returns
returns g c =
    own_if (IsOfferText g.P.In.Language g.P.Out.Language g.P.Pass) c.args.seat.now c.me.result c.in-Some.offer.now c.args.text.now c.is_text_of.result
    c.me.ensures.value c.in-Some.ensures c.is_text_of.ensures
