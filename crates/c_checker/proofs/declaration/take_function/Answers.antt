-- Why `take_function` meets its clause `err`.
use Rattle.std.proofs.Common.{rules, ◌≡◌, [], Some, map, length, subst}
use Rattle.std.proofs.lemmas.Result.{err_from_is_err_and}
use Rattle.c_syntax.specs.Views.{function_tree}
use Rattle.c_checker_rules.specs.Told.{Tells}
use Rattle.c_checker_rules.specs.Functions as F
use Rattle.c_checker_rules.proofs.Firsts.{tells_front, tells_behind}
use Rattle.c_checker.proofs.Telling.{told_there}
use Rattle.c_checker.proofs.declaration.take_function.Goals as goal

pub returns-in_err-declare-clause-err : goal.returns-in_err-declare-clause-err
returns-in_err-declare-clause-err c =
    let p = err_from_is_err_and c.from_residual-in_err-declare.result c.from_residual-in_err-declare.ensures.1 in
    let e = c.in_err-declare.field-0.0 in
    let same : c.in_ok-signature.signature ≡ F.signature_of c.args.function.now.result (map F.opened c.args.function.now.parameters) = search rules in
    let number : c.len-number.result ≡ length c.args.progress.now.defined.items = search rules in
    let named = subst (λ s. Tells e (F.function_name_faults c.args.progress.now.functions c.args.progress.now.here.scope c.args.function.now.name s (Some c.len-number.result))) same c.in_err-declare.ensures.err in
    let counted = subst (λ n. Tells e (F.function_name_faults c.args.progress.now.functions c.args.progress.now.here.scope c.args.function.now.name (F.signature_of c.args.function.now.result (map F.opened c.args.function.now.parameters)) (Some n))) number named in
    rw (p.1, p.2) (tells_front e _ _ counted)

pub returns-in_err-made-clause-err : goal.returns-in_err-made-clause-err
returns-in_err-made-clause-err c =
    let p = err_from_is_err_and c.from_residual-in_err-made.result c.from_residual-in_err-made.ensures.1 in
    let e = c.in_err-made.field-0.0 in
    let whole = F.signature_of c.args.function.now.result (map F.opened c.args.function.now.parameters) in
    let before = c.args.progress.now.functions in
    let scope = c.args.progress.now.here.scope in
    let name = c.args.function.now.name in
    let same : c.in_ok-signature.signature ≡ F.signature_of c.args.function.now.result (map F.opened c.args.function.now.parameters) = search rules in
    let number : c.len-number.result ≡ length c.args.progress.now.defined.items = search rules in
    let named = subst (λ s. F.function_name_faults before scope name s (Some c.len-number.result) ≡ []) same c.in_ok-declare.ensures.ok in
    let none = subst (λ n. F.function_name_faults before scope name whole (Some n) ≡ []) number named in
    let known = told_there e (function_tree c.args.function.now) _ _ _ _ c.in_ok-declare.ensures.functions c.in_ok-declare.ensures.scope c.in_err-made.ensures.err in
    let told = subst (λ s. Tells e (F.body_faults (record { signatures = F.with_signature before.signatures scope name s; bodies = before.bodies }) (F.with_function before.signatures scope name) (function_tree c.args.function.now))) same known in
    rw (p.1, p.2) (tells_behind e _ _ none told)
