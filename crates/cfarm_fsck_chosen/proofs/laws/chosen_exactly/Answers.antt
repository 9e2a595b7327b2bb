-- Why `chosen_exactly` meets its clauses `chosen` and `open`.
use Rattle.cfarm_fsck_chosen.proofs.ChosenLemmas.{chosen_quorum, open_few}
use Rattle.cfarm_fsck_chosen.proofs.laws.chosen_exactly.Goals as goal

pub returns-clause-chosen : goal.returns-clause-chosen
returns-clause-chosen c = chosen_quorum

pub returns-clause-open : goal.returns-clause-open
returns-clause-open c = open_few
