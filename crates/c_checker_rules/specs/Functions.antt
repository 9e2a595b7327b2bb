-- Functions and prototypes (C99 5.1.2.2.1, 6.7.5.3 and 6.9.1): what is not well formed in one, and what it stands for.
use Rattle.std.specs.Prelude.{ℕ, suc, ◌==◌, List, [], ◌∷◌, ◌++◌, length, map, Option, Some, None, Bool, true, false, not, ◌&&◌, ◌||◌, if◌then◌else◌, nat_lt}
use Rattle.c_syntax.specs.declared.constant.IntegerType.{IntegerType}
use Rattle.c_syntax.specs.declared.constant.IntegerType.TheVariants.{Int, Unsigned}
use Rattle.c_checker_scopes.specs.Bound.{Bound, found}
use Rattle.c_syntax.specs.declared.identifier.Identifier.{Identifier}
use Rattle.c_syntax.specs.declared.declaration.ReturnType.{ReturnType}
use Rattle.c_syntax.specs.declared.declaration.ReturnType.TheVariants as R
use Rattle.c_syntax.specs.declared.declaration.Parameter.{Parameter}
use Rattle.c_syntax.specs.declared.declaration.OpenParameter.{OpenParameter}
use Rattle.c_syntax.specs.Trees.{FunctionTree}
use Rattle.c_program.specs.declared.function.Ending.{Ending}
use Rattle.c_program.specs.declared.function.Ending.TheVariants.{Returns, ReturnsZero, GoesWrong}
use Rattle.c_program.specs.Trees as P
use Rattle.c_checker_rules.specs.declared.errors.CheckError.{CheckError}
use Rattle.c_checker_rules.specs.declared.errors.CheckError.TheVariants.{Redeclared, BadMain, Limit}
use Rattle.c_checker_rules.specs.declared.meaning.Meaning.{Meaning}
use Rattle.c_checker_rules.specs.declared.meaning.Meaning.TheVariants as M
use Rattle.c_checker_rules.specs.declared.signature.Signature.{Signature}
use Rattle.c_checker_rules.specs.Told.{unless}
use Rattle.c_checker_rules.specs.Names.{Scope}
use Rattle.c_checker_rules.specs.Calls.{Functions, is_putchar, called}
use Rattle.c_checker_rules.specs.declared.context.Context.{Context}
use Rattle.c_checker_rules.specs.Locals.{Here, is_short, is_new, with_local}
use Rattle.c_checker_rules.specs.Globals.{is_main}
use Rattle.c_checker_rules.specs.Statements.{after_all, statements_faults}
use Rattle.c_checker_rules.specs.Actions.{actions_of}

-- most functions with bodies, and most parameters of one
abbrev pub most_functions : ℕ
most_functions = 64

abbrev pub most_parameters : ℕ
most_parameters = 16

abbrev pub same_type : IntegerType → IntegerType → Bool
same_type Int Int = true
same_type Int Unsigned = false
same_type Unsigned Int = false
same_type Unsigned Unsigned = true

abbrev pub same_types : List IntegerType → List IntegerType → Bool
same_types [] [] = true
same_types [] (t ∷ ts) = false
same_types (s ∷ ss) [] = false
same_types (s ∷ ss) (t ∷ ts) = same_type s t && same_types ss ts

abbrev pub same_result : ReturnType → ReturnType → Bool
same_result R.Void R.Void = true
same_result R.Void (R.Value t) = false
same_result (R.Value s) R.Void = false
same_result (R.Value s) (R.Value t) = same_type s t

abbrev pub same_signature : Signature → Signature → Bool
same_signature s t = same_result s.result t.result && same_types s.kinds t.kinds

-- a parameter of a function with a body is one of a prototype that has a name
abbrev pub opened : Parameter → OpenParameter
opened p = record { kind = p.kind; name = Some p.name; offset = p.offset }

abbrev pub signature_of : ReturnType → List OpenParameter → Signature
signature_of result ps = record { result = result; kinds = map (λ p. p.kind) ps }

-- A name is new in its file, or names a function of the same type.
abbrev pub may_be : List Signature → Scope → Identifier → Signature → Bool
may_be signatures scope x s = again (found x.name scope)
  where
    same : Option Signature → Bool
    same None = false
    same (Some t) = same_signature s t

    again : Option (Bound Meaning) → Bool
    again None = true
    again (Some b) = same (called signatures (Some b.value))

-- `int (int)` and `int (void)`
abbrev pub takes_int : Signature
takes_int = record { result = R.Value Int; kinds = Int ∷ [] }

abbrev pub takes_nothing : Signature
takes_nothing = record { result = R.Value Int; kinds = [] }

-- Where the number of a body is given, it is the only body of that name, and `putchar` has none.
abbrev pub is_only_body : List (Bound ℕ) → Identifier → Option ℕ → Bool
is_only_body bodies x None = true
is_only_body bodies x (Some number) = not (is_putchar x.name) && numbered (found x.name bodies)
  where
    numbered : Option (Bound ℕ) → Bool
    numbered None = false
    numbered (Some b) = b.value == number

abbrev pub is_redeclared : Functions → Scope → Identifier → Signature → Option ℕ → Bool
is_redeclared f scope x s number =
    not (may_be f.signatures scope x s && is_only_body f.bodies x number && (not (is_putchar x.name) || same_signature s takes_int))

abbrev pub is_countable : Option ℕ → Bool
is_countable None = true
is_countable (Some number) = nat_lt number most_functions

-- at the name of a function with this number, or of a prototype
abbrev pub function_name_faults : Functions → Scope → Identifier → Signature → Option ℕ → List CheckError
function_name_faults f scope x s number =
    unless (not (is_redeclared f scope x s number)) (Redeclared x.offset)
    ++ unless (not (is_main x.name) || same_signature s takes_nothing) (BadMain x.offset)
    ++ unless (is_countable number && is_short x) (Limit x.offset)

-- Parameters share the scope of the body's outermost block, at depth 1. One without a name takes a number all the same.
abbrev pub with_parameter : Here → OpenParameter → Here
with_parameter h p = named p.name
  where
    named : Option Identifier → Here
    named None = record h { locals = suc h.locals }
    named (Some x) = with_local 1 h p.kind x

abbrev pub with_parameters : Here → List OpenParameter → Here
with_parameters h [] = h
with_parameters h (p ∷ ps) = with_parameters (with_parameter h p) ps

-- at a parameter's name, or at its type where it has none
abbrev pub parameter_faults : Here → OpenParameter → List CheckError
parameter_faults h p = named p.name
  where
    named : Option Identifier → List CheckError
    named None = unless (nat_lt h.locals most_parameters) (Limit p.offset)
    named (Some x) =
        unless (is_new 1 h.scope x) (Redeclared x.offset) ++ unless (nat_lt h.locals most_parameters && is_short x) (Limit x.offset)

abbrev pub parameters_faults : Here → List OpenParameter → List CheckError
parameters_faults h [] = []
parameters_faults h (p ∷ ps) = parameter_faults h p ++ parameters_faults (with_parameter h p) ps

-- The file's names with a function's, which is declared before its parameters. A name that is declared already keeps its meaning.
abbrev pub with_function : List Signature → Scope → Identifier → Scope
with_function signatures scope x = added (found x.name scope)
  where
    added : Option (Bound Meaning) → Scope
    added None = record { name = x.name; depth = 0; value = M.Function (length signatures) } ∷ scope
    added (Some b) = scope

abbrev pub with_signature : List Signature → Scope → Identifier → Signature → List Signature
with_signature signatures scope x s = added (found x.name scope)
  where
    added : Option (Bound Meaning) → List Signature
    added None = signatures ++ s ∷ []
    added (Some b) = signatures

-- the outermost block of a function's body
abbrev pub outermost : ReturnType → Context
outermost result = record { depth = 1; in_loop = false; result = result }

-- what is declared where the body begins: f and scope are the file's, with this function
abbrev pub entered : Scope → FunctionTree → Here
entered scope g = with_parameters (record { scope = scope; locals = 0 }) (map opened g.parameters)

abbrev pub body_faults : Functions → Scope → FunctionTree → List CheckError
body_faults f scope g =
    parameters_faults (record { scope = scope; locals = 0 }) (map opened g.parameters)
    ++ statements_faults f (outermost g.result) (entered scope g) g.body

-- Reaching the end of main returns 0; another function with a value goes wrong there.
abbrev pub ending_of : List ℕ → ReturnType → Ending
ending_of name R.Void = if is_main name then ReturnsZero else Returns
ending_of name (R.Value t) = if is_main name then ReturnsZero else GoesWrong

abbrev pub function_of : Functions → Scope → FunctionTree → P.FunctionTree
function_of f scope g = record {
  name = g.name.name;
  parameters = length g.parameters;
  locals = (after_all 1 (entered scope g) g.body).locals;
  ending = ending_of g.name.name g.result;
  body = actions_of f 1 (entered scope g) g.body;
}
