-- Why `conditional_of` meets its contract.
use Rattle.std.proofs.Common.{◌++◌}
use Rattle.std.proofs.lemmas.Result.{err_from_is_err_and, IfOk-weaker, IfErr-weaker, MatchResult-from_both}
use Rattle.c_checker_rules.specs.Expressions.{expression_faults}
use Rattle.c_checker_terms.proofs.Checked.{faults_told, no_faults, none_in_both, none_or_told, first_told}
use Rattle.c_checker_terms.proofs.parts.conditional_of.Goals as goal

pub returns-in_err-condition : goal.returns-in_err-condition
returns-in_err-condition c scope condition left right first second third =
    let p = err_from_is_err_and c.from_residual.result c.from_residual.ensures.1 in
    let one = expression_faults scope condition in
    let two = expression_faults scope left in
    let fault = faults_told scope left c.args.left second in
    let none = IfOk-weaker c.both.result _ _ (λ x is. none_in_both one two (no_faults scope condition c.args.condition x.0 is.0 first) (no_faults scope left c.args.left x.1 is.1 second)) c.both.ensures.ok in
    let told = IfErr-weaker c.both.result _ _ (λ f is. first_told one two c.args.condition c.args.left f is (none_or_told scope condition c.args.condition first) fault) c.both.ensures.err in
    rw (p.1, p.2) (first_told (one ++ two) (expression_faults scope right) c.both.result c.args.right c.in_err-condition.field-0.0 c.in_err-condition.ensures.err (MatchResult-from_both c.both.result _ _ none told) (faults_told scope right c.args.right third))
