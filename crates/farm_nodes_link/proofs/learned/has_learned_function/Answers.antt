-- Why `has_learned_function` meets its contract.
use Rattle.std.proofs.Common.{ap, ◌∙◌}
use Rattle.std.specs.Prelude.{is_some}
use Rattle.farm_nodes_link.proofs.Wanting.{lent_is_some}
use Rattle.farm_nodes_link.proofs.learned.has_learned_function.Goals as goal

pub returns : goal.returns
returns g c = c.is_some.ensures ∙ lent_is_some c.chain_of.result ∙ ap is_some c.chain_of.ensures
