-- What is told of a function's body is told of it where its name is declared.
use Rattle.std.proofs.Common.{◌≡◌, subst}
use Rattle.c_syntax.specs.Trees.{FunctionTree}
use Rattle.c_checker_rules.specs.declared.errors.CheckError.{CheckError}
use Rattle.c_checker_rules.specs.Told.{Tells}
use Rattle.c_checker_rules.specs.Names.{Scope}
use Rattle.c_checker_rules.specs.Calls.{Functions}
use Rattle.c_checker_rules.specs.Functions.{body_faults}

pub told_there : (e : CheckError) (g : FunctionTree) (before known : Functions) (here scope : Scope) → before ≡ known → here ≡ scope → Tells e (body_faults before here g) → Tells e (body_faults known scope g)
told_there e g before known here scope functions names told =
    subst (λ s. Tells e (body_faults known s g)) names (subst (λ f. Tells e (body_faults f here g)) functions told)
