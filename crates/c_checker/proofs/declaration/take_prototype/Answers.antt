-- Why `take_prototype` meets its clause `err`.
use Rattle.std.proofs.Common.{rules, ◌≡◌, [], None, subst}
use Rattle.std.proofs.lemmas.Result.{err_from_is_err_and}
use Rattle.c_checker_rules.specs.Told.{Tells}
use Rattle.c_checker_rules.specs.Functions as F
use Rattle.c_checker_rules.proofs.Firsts.{tells_front, tells_behind}
use Rattle.c_checker.proofs.declaration.take_prototype.Goals as goal

pub returns-in_err-declare-clause-err : goal.returns-in_err-declare-clause-err
returns-in_err-declare-clause-err g c =
    let p = err_from_is_err_and c.from_residual-in_err-declare.result c.from_residual-in_err-declare.ensures.1 in
    let e = c.in_err-declare.field-0.0 in
    let same : c.in_ok-signature.signature ≡ F.signature_of c.args.prototype.now.result c.args.prototype.now.parameters = search rules in
    let named = subst (λ s. Tells e (F.function_name_faults c.args.progress.now.functions c.args.progress.now.here.scope c.args.prototype.now.name s None)) same c.in_err-declare.ensures.err in
    rw (p.1, p.2) (tells_front e _ _ named)

pub returns-in_err-check_prototype-clause-err : goal.returns-in_err-check_prototype-clause-err
returns-in_err-check_prototype-clause-err g c =
    let p = err_from_is_err_and c.from_residual-in_err-check_prototype.result c.from_residual-in_err-check_prototype.ensures.1 in
    let e = c.in_err-check_prototype.field-0.0 in
    let same : c.in_ok-signature.signature ≡ F.signature_of c.args.prototype.now.result c.args.prototype.now.parameters = search rules in
    let none = subst (λ s. F.function_name_faults c.args.progress.now.functions c.args.progress.now.here.scope c.args.prototype.now.name s None ≡ []) same c.in_ok-declare.ensures.ok in
    let told = subst (λ scope. Tells e (F.parameters_faults (record { scope = scope; locals = 0 }) c.args.prototype.now.parameters)) c.in_ok-declare.ensures.scope c.in_err-check_prototype.ensures.err in
    rw (p.1, p.2) (tells_behind e _ _ none told)
