-- Why `check_initial` meets its contract.
use Rattle.c_syntax.specs.Views.{initial_tree}
use Rattle.c_checker_declarations.proofs.Constants.{fault_told}
use Rattle.c_checker_declarations.proofs.initial.check_initial.Goals as goal

pub returns-in-Err : goal.returns-in-Err
returns-in-Err c = record {
  ok = tt;
  word = tt;
  err = λ memory. rw (c.told.ensures.told memory) (fault_told c.args.scope.now (initial_tree c.args.initial.now) c.in-Err.fault (c.in-Err.ensures.err (c.told.ensures.kept memory)));
}
