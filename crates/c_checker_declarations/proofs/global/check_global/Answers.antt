-- Why `check_global` meets its clause `err`.
use Rattle.std.proofs.lemmas.Result.{err_from_is_err_and}
use Rattle.c_syntax.specs.Views.{global_tree}
use Rattle.c_checker_rules.specs.Globals.{global_name_faults, initials_faults, initials_of, with_global}
use Rattle.c_checker_rules.proofs.Firsts.{tells_front}
use Rattle.c_checker_declarations.proofs.global.check_global.Goals as goal

pub returns-in_err-check_name-clause-err : goal.returns-in_err-check_name-clause-err
returns-in_err-check_name-clause-err c =
    let p = err_from_is_err_and c.from_residual.result c.from_residual.ensures.1 in
    let g = global_tree c.args.global.now in
    rw (p.1, p.2) (tells_front c.in_err-check_name.field-0.0 (global_name_faults c.args.scope.now c.args.globals c.args.cells g) (initials_faults (with_global c.args.globals c.args.scope.now g) (initials_of g.initializer)) c.in_err-check_name.ensures.err)
