-- What is no offer of a pass is refused of the node.
use Rattle.std.proofs.Common.{inl, inr}
use Rattle.farm_nodes_open_stored.proofs.one.read_node.Goals as goal

pub returns-in-Err-clause-refused : goal.returns-in-Err-clause-refused
returns-in-Err-clause-refused c memory =
    let told = c.in-Err.ensures.refused memory in (told.0, inl told.1)

pub returns-in-Err-stored_offers-clause-refused : goal.returns-in-Err-stored_offers-clause-refused
returns-in-Err-stored_offers-clause-refused c memory =
    let told = c.in-Err-stored_offers.ensures.refused memory in (told.0, inr (inl told.1))

pub returns-in-Err-stored_offers-2-clause-refused : goal.returns-in-Err-stored_offers-2-clause-refused
returns-in-Err-stored_offers-2-clause-refused c memory =
    let told = c.in-Err-stored_offers-2.ensures.refused memory in (told.0, inr (inr (inl told.1)))

pub returns-in-Err-stored_offers-3-clause-refused : goal.returns-in-Err-stored_offers-3-clause-refused
returns-in-Err-stored_offers-3-clause-refused c memory =
    let told = c.in-Err-stored_offers-3.ensures.refused memory in (told.0, inr (inr (inr told.1)))

pub returns-clause-stored : goal.returns-clause-stored
returns-clause-stored c = record {
  constants = c.in-Ok.ensures.stored;
  expressions = c.in-Ok-stored_offers.ensures.stored;
  allocation = c.in-Ok-stored_offers-2.ensures.stored;
  order = c.in-Ok-stored_offers-3.ensures.stored;
}
