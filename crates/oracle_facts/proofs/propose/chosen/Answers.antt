-- Why `chosen` meets its contract.
use Rattle.oracle_facts.proofs.propose.chosen.Goals as goal

pub returns-in-Some : goal.returns-in-Some
returns-in-Some g c = c.in-Some.ensures
