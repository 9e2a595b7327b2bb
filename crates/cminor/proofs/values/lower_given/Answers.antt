-- Why `lower_given` may call `lower_call`.
use Rattle.std.proofs.Common.{map, subst}
use Rattle.std.specs.List.{AllByRecursion}
use Rattle.cminor_syntax.specs.Fits.{ExpressionFits, StatementFits}
use Rattle.cminor_syntax.specs.Trees as T
use Rattle.c_program.specs.Views.{term_tree, given_tree}
use Rattle.cminor_lowering.specs.Actions.{low_given}
use Rattle.cminor_lowering.specs.Terms.{low_term}
use Rattle.cminor.proofs.Fitting.{given_fits, arguments_fit}
use Rattle.cminor.proofs.values.lower_given.Goals as goal

pub lower_call-requires-clause-arguments : goal.lower_call-requires-clause-arguments
lower_call-requires-clause-arguments c =
    let called = c.in-Call.called in
    let arguments = map low_term (map term_tree called.arguments) in
    arguments_fit called.arguments
    (given_fits (AllByRecursion (ExpressionFits 65536) arguments) c.args.spare c.args.target (λ v. T.Call called.function v arguments) (λ v fits. fits.1.1.1)
    (subst (λ value. StatementFits 65536 (low_given c.args.spare c.args.target (given_tree value))) c.in-Call.is c.requires))
