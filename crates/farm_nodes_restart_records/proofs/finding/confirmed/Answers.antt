-- Why `confirmed` meets its clauses `ok` and `refused`.
use Rattle.std.proofs.Common.{refl}
use Rattle.farm_nodes_turn_passes.specs.Fours.{fours_of}
use Rattle.farm_nodes_turn_passes.specs.Texts.{pass_texts}
use Rattle.farm_nodes_restart_records.specs.declared.finding.Found.TheVariants as found
use Rattle.farm_nodes_restart_records.proofs.Texts.{confirmed_pending, confirmed_whole, settled_refused}
use Rattle.farm_nodes_restart_records.proofs.finding.confirmed.Goals as goal

pub returns-in-Pending-clause-ok : goal.returns-in-Pending-clause-ok
returns-in-Pending-clause-ok g c =
    rw c.in-Pending.is
    (confirmed_pending pass_texts (fours_of c.args.seats.now.items) c.args.records.now c.are_told.result c.settled.result c.but_last.result.now c.settled.ensures c.but_last.ensures c.are_told.ensures)

pub returns-in-Pending-clause-refused : goal.returns-in-Pending-clause-refused
returns-in-Pending-clause-refused g c =
    settled_refused pass_texts (fours_of c.args.seats.now.items) c.args.records.now c.are_told.result c.settled.result found.Pending c.settled.ensures

pub returns-in-Whole-clause-ok : goal.returns-in-Whole-clause-ok
returns-in-Whole-clause-ok g c =
    rw c.in-Whole.is
    (confirmed_whole pass_texts (fours_of c.args.seats.now.items) c.args.records.now c.are_told-in-Whole.result c.settled-in-Whole.result c.settled-in-Whole.ensures c.are_told-in-Whole.ensures)

pub returns-in-Whole-clause-refused : goal.returns-in-Whole-clause-refused
returns-in-Whole-clause-refused g c =
    settled_refused pass_texts (fours_of c.args.seats.now.items) c.args.records.now c.are_told-in-Whole.result c.settled-in-Whole.result found.Whole c.settled-in-Whole.ensures

pub returns-in-Neither-clause-ok : goal.returns-in-Neither-clause-ok
returns-in-Neither-clause-ok g c = rw c.in-Neither.is refl
