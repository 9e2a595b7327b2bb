-- Why `own_disk` meets its clauses `in_order` and `others`.
use Rattle.farm_nodes_restart_node.specs.Texts.{pass_texts}
use Rattle.farm_nodes_restart_disks.proofs.Own.{never_others, own_in_order}
use Rattle.farm_nodes_restart_disks.proofs.laws.own_disk.Goals as goal

pub returns-clause-in_order : goal.returns-clause-in_order
returns-clause-in_order g c log seats halted bytes rs sound honest left stands =
    let disk = g.D.Disk in
    own_in_order pass_texts disk log seats halted bytes sound honest left rs stands

pub returns-clause-others : goal.returns-clause-others
returns-clause-others g c log seats halted bytes rs sound honest left stands others =
    let disk = g.D.Disk in
    never_others pass_texts disk log seats halted bytes rs sound honest left stands others
