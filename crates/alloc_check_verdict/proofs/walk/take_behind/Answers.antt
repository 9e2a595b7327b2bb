-- Why `take_behind` meets its clause `equations`.
use Rattle.alloc_check_verdict.specs.Walk.{found_in, stands_at}
use Rattle.alloc_check_verdict.proofs.Taken.{behind_one}
use Rattle.alloc_check_verdict.proofs.walk.take_behind.Goals as goal

pub returns-in-Do-clause-equations : goal.returns-in-Do-clause-equations
returns-in-Do-clause-equations c =
    rw c.in-Do.is (behind_one (stands_at c.args.feeders.now c.args.said.now c.args.lists.now) c.in-Do.successor (found_in c.take_one.result) c.take_one.ensures.equations)

pub returns-in-Call-clause-equations : goal.returns-in-Call-clause-equations
returns-in-Call-clause-equations c =
    rw c.in-Call.is (behind_one (stands_at c.args.feeders.now c.args.said.now c.args.lists.now) c.in-Call.successor (found_in c.take_one-in-Call.result) c.take_one-in-Call.ensures.equations)

pub returns-in-Branch-clause-equations : goal.returns-in-Branch-clause-equations
returns-in-Branch-clause-equations c = rw c.in-Branch.is c.take_two.ensures.equations
