-- What is put behind a list of places.
use Rattle.std.specs.Prelude.{◌≡◌, ℕ, List, ◌++◌}
use Rattle.c_syntax.specs.declared.expression.Expression.{Expression}
use Rattle.c_syntax.specs.declared.token.Token.{Token}
use Rattle.c_syntax.specs.Views.{expression_tree}
use Rattle.c_program.specs.declared.term.Term.{Term}
use Rattle.c_program.specs.Views.{term_tree}
use Rattle.c_faults_terms.specs.Terms.{term_places}

abbrev pub Adds : List ℕ → List ℕ → List ℕ → Type 0
Adds old new places = new ≡ old ++ places

-- an expression that stands for this term
abbrev pub AddsTerm : List ℕ → List ℕ → Expression → Term → List Token → Type 0
AddsTerm old new e t ts = Adds old new (term_places (expression_tree e) (term_tree t) ts)
