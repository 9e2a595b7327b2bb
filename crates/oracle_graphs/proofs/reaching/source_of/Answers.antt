-- Why `source_of` meets its contract.
use Rattle.oracle_graphs.proofs.reaching.source_of.Goals as goal

pub returns : goal.returns
returns c = c.brought.ensures _ c.location_of.ensures
