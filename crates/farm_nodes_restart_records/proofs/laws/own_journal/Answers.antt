-- Why `own_journal` meets its contract.
use Rattle.farm_nodes_turn_passes.specs.Texts.{pass_texts}
use Rattle.farm_nodes_restart_records.proofs.Own.{own}
use Rattle.farm_nodes_restart_records.proofs.laws.own_journal.Goals as goal

pub returns : goal.returns
returns c seats room p h upto rs bytes leave between stands others = own pass_texts seats room p h upto rs bytes leave between stands others
