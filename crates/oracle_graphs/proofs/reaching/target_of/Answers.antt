-- Why `target_of` meets its contract.
use Rattle.oracle_graphs.proofs.reaching.target_of.Goals as goal

pub returns : goal.returns
returns c = c.put_away.ensures _ c.location_of.ensures
