-- What is out of order, or no offer, is refused of the node.
use Rattle.std.proofs.Common.{inl, inr}
use Rattle.farm_nodes_open_stored.proofs.one.stored_of_node.Goals as goal

pub returns-in-Err-clause-refused : goal.returns-in-Err-clause-refused
returns-in-Err-clause-refused c memory =
    let told = c.in-Err.ensures.refused memory in (told.0, inl told.1)

pub returns-in-Err-read_node-clause-refused : goal.returns-in-Err-read_node-clause-refused
returns-in-Err-read_node-clause-refused c memory =
    let told = c.in-Err-read_node.ensures.refused memory in (told.0, inr told.1)
