-- What one pass refuses is refused of the node.
use Rattle.std.proofs.Common.{inl, inr}
use Rattle.farm_nodes_open_stored.proofs.accepting.check_node.Goals as goal

pub returns-in-Err-clause-refused : goal.returns-in-Err-clause-refused
returns-in-Err-clause-refused g c memory =
    let told = c.in-Err.ensures.refused memory in (told.0, inl told.1)

pub returns-in-Err-checked_offers-clause-refused : goal.returns-in-Err-checked_offers-clause-refused
returns-in-Err-checked_offers-clause-refused g c memory =
    let told = c.in-Err-checked_offers.ensures.refused memory in (told.0, inr (inl told.1))

pub returns-in-Err-checked_offers-2-clause-refused : goal.returns-in-Err-checked_offers-2-clause-refused
returns-in-Err-checked_offers-2-clause-refused g c memory =
    let told = c.in-Err-checked_offers-2.ensures.refused memory in (told.0, inr (inr (inl told.1)))

pub returns-in-Err-checked_offers-3-clause-refused : goal.returns-in-Err-checked_offers-3-clause-refused
returns-in-Err-checked_offers-3-clause-refused g c memory =
    let told = c.in-Err-checked_offers-3.ensures.refused memory in (told.0, inr (inr (inr told.1)))

pub returns-clause-known : goal.returns-clause-known
returns-clause-known g c = record {
  constants = c.in-Ok.ensures.known;
  expressions = c.in-Ok-checked_offers.ensures.known;
  allocation = c.in-Ok-checked_offers-2.ensures.known;
  order = c.in-Ok-checked_offers-3.ensures.known;
}

pub returns-clause-accepted : goal.returns-clause-accepted
returns-clause-accepted g c = record {
  constants = c.in-Ok.ensures.accepted;
  expressions = c.in-Ok-checked_offers.ensures.accepted;
  allocation = c.in-Ok-checked_offers-2.ensures.accepted;
  order = c.in-Ok-checked_offers-3.ensures.accepted;
}
