-- The rules of declarations, asked of what the reader made.
use Rattle.std.specs.Prelude.{ℕ, List, Option}
use Rattle.c_syntax.specs.declared.identifier.Identifier.{Identifier}
use Rattle.c_syntax.specs.declared.declaration.Initializer.{Initializer}
use Rattle.c_syntax.specs.declared.declaration.Global as N
use Rattle.c_syntax.specs.declared.declaration.Function.{Function}
use Rattle.c_syntax.specs.Trees.{InitialTree}
use Rattle.c_syntax.specs.Views.{optional_tree, initializer_tree, global_tree, function_tree, statements_tree}
use Rattle.c_program.specs.declared.function.GlobalVariable.{GlobalVariable}
use Rattle.c_program.specs.Trees.{ActionsTree, FunctionTree}
use Rattle.c_checker_rules.specs.declared.errors.CheckError.{CheckError}
use Rattle.c_checker_rules.specs.declared.signature.Signature.{Signature}
use Rattle.c_checker_rules.specs.Names.{Scope}
use Rattle.c_checker_rules.specs.Calls.{Functions}
use Rattle.c_checker_rules.specs.Locals.{Here}
use Rattle.c_checker_rules.specs.Statements.{after_all}
use Rattle.c_checker_rules.specs.Actions.{actions_of}
use Rattle.c_checker_rules.specs.Globals.{with_global, global_of, initials_of}
use Rattle.c_checker_rules.specs.Functions.{with_signature, function_name_faults, entered, function_of}

-- what is wrong with the name of a function, or of a prototype
abbrev pub name_faults : Functions → Scope → Identifier → Signature → Option ℕ → List CheckError
name_faults f scope name signature number = function_name_faults f scope name signature number

-- the signatures, with that of a name that is declared
abbrev pub signed_with : Functions → Scope → Identifier → Signature → List Signature
signed_with f scope name signature = with_signature f.signatures scope name signature

-- what a function's body stands for, and what is known behind it
abbrev pub body_actions : Functions → Scope → Function → ActionsTree
body_actions f scope g = actions_of f 1 (entered scope (function_tree g)) (statements_tree g.body)

abbrev pub behind_body : Scope → Function → Here
behind_body scope g = after_all 1 (entered scope (function_tree g)) (statements_tree g.body)

-- what a function stands for
abbrev pub function_for : Functions → Scope → Function → FunctionTree
function_for f scope g = function_of f scope (function_tree g)

-- the variable that a global stands for
abbrev pub variable_for : ℕ → Scope → N.Global → GlobalVariable
variable_for globals scope g = global_of (with_global globals scope (global_tree g)) (global_tree g)

-- the expressions that a global begins with
abbrev pub initials_in : Option Initializer → List InitialTree
initials_in initializer = initials_of (optional_tree initializer_tree initializer)
