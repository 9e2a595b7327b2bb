-- Why `tests_agree` meets its contract.
use Rattle.alloc_check_rules.proofs.Acts.{test_covered}
use Rattle.alloc_check_rules.proofs.law.tests_agree.Goals as goal

pub returns : goal.returns
returns c = test_covered
