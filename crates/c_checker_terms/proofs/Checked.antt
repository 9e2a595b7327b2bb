-- How the faults of an expression's parts are told.
use Rattle.std.proofs.Common.{◌≡◌, List, [], ◌++◌, Result, Ok, Err, refl}
use Rattle.std.specs.Prelude.{MatchResult, IfErr}
use Rattle.c_syntax.specs.Trees.{ExpressionTree}
use Rattle.c_checker_rules.specs.declared.errors.CheckError.{CheckError}
use Rattle.c_checker_rules.specs.Names.{Scope}
use Rattle.c_checker_rules.specs.Told.{Tells}
use Rattle.c_checker_rules.specs.Expressions.{expression_faults}
use Rattle.c_checker_rules.proofs.Firsts.{tells_front, tells_behind}
use Rattle.c_checker_terms.specs.Checked.{Answer, Checks}
use Rattle.c_checker_terms.specs.declared.typed.Typed.{Typed}

pub faults_told : (scope : Scope) (e : ExpressionTree) (answer : Answer) → Checks scope e answer → IfErr answer (λ f. Tells f (expression_faults scope e))
faults_told scope e (Ok t) checks = tt
faults_told scope e (Err f) checks = checks

pub no_faults : (scope : Scope) (e : ExpressionTree) (answer : Answer) (t : Typed) → answer ≡ Ok t → Checks scope e answer → expression_faults scope e ≡ []
no_faults scope e answer t is checks = (rw is at checks).0

pub none_in_both : (front rest : List CheckError) → front ≡ [] → rest ≡ [] → front ++ rest ≡ []
none_in_both front rest none no_more = rw (none, no_more) refl

-- the first fault of two parts
pub first_told : {A B : Type 0} (front rest : List CheckError) (left : Result A CheckError) (right : Result B CheckError) (e : CheckError) → MatchResult left (λ x. right ≡ Err e) (λ fault. fault ≡ e) → MatchResult left (λ x. front ≡ []) (λ f. Tells f front) → IfErr right (λ f. Tells f rest) → Tells e (front ++ rest)
first_told front rest (Ok x) right e second none told = tells_behind e front rest none (rw second at told)
first_told front rest (Err f) right e first told more = tells_front e front rest (rw first at told)

pub none_or_told : (scope : Scope) (e : ExpressionTree) (answer : Answer) → Checks scope e answer → MatchResult answer (λ t. expression_faults scope e ≡ []) (λ f. Tells f (expression_faults scope e))
none_or_told scope e (Ok t) checks = checks.0
none_or_told scope e (Err f) checks = checks
