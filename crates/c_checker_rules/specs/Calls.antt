-- Calls (C99 6.5.2.2): what is not well formed in one, and what it stands for.
use Rattle.std.specs.Prelude.{ℕ, ◌==◌, List, [], ◌∷◌, ◌++◌, length, map, Option, Some, None, is_some, Bool, true, not, ◌||◌, if◌then◌else◌, slice_get, codes}
use Rattle.std.specs.Str.{bytes_eq}
use Rattle.c_checker_scopes.specs.Bound.{Bound, found}
use Rattle.c_syntax.specs.declared.declaration.ReturnType.{ReturnType}
use Rattle.c_syntax.specs.declared.declaration.ReturnType.TheVariants as R
use Rattle.c_syntax.specs.Trees.{ExpressionTree, CallTree, ValueTree}
use Rattle.c_syntax.specs.Trees as T
use Rattle.c_program.specs.Trees.{TermTree, GivenTree}
use Rattle.c_program.specs.Trees as P
use Rattle.c_checker_rules.specs.declared.errors.CheckError.{CheckError}
use Rattle.c_checker_rules.specs.declared.errors.CheckError.TheVariants.{Undeclared, WrongArity, VoidValue, NoBody}
use Rattle.c_checker_rules.specs.declared.meaning.Meaning.{Meaning}
use Rattle.c_checker_rules.specs.declared.meaning.Meaning.TheVariants as M
use Rattle.c_checker_rules.specs.declared.signature.Signature.{Signature}
use Rattle.c_checker_rules.specs.Told.{unless}
use Rattle.c_checker_rules.specs.Names.{Scope, meaning_of}
use Rattle.c_checker_rules.specs.Terms.{term_of}
use Rattle.c_checker_rules.specs.Expressions.{expression_faults}

-- the signatures of the functions that are declared so far, and the functions with bodies, each with its number
pub record Functions : Type 0 where
  pub signatures : List Signature
  pub bodies : List (Bound ℕ)

abbrev pub is_putchar : List ℕ → Bool
is_putchar name = bytes_eq name (codes "putchar")

-- the signature of the function that a name stands for, if it stands for one
abbrev pub called : List Signature → Option Meaning → Option Signature
called signatures None = None
called signatures (Some (M.Local n t)) = None
called signatures (Some (M.Variable n t)) = None
called signatures (Some (M.Array n t)) = None
called signatures (Some (M.Function n)) = slice_get signatures n

-- a function without value, where one is wanted
abbrev pub void_faults : Bool → ReturnType → ℕ → List CheckError
void_faults wanted R.Void at = unless (not wanted) (VoidValue at)
void_faults wanted (R.Value t) at = []

-- a function with this body, if it has one, is called with so many arguments
abbrev pub callee_faults : Bool → Bool → ℕ → ℕ → Option Signature → List CheckError
callee_faults has_body wanted arguments at None = Undeclared at ∷ []
callee_faults has_body wanted arguments at (Some s) =
    unless (arguments == length s.kinds) (WrongArity at) ++ void_faults wanted s.result at ++ unless has_body (NoBody at)

-- putchar needs none
abbrev pub has_body : List (Bound ℕ) → List ℕ → Bool
has_body bodies name = is_putchar name || is_some (found name bodies)

abbrev pub arguments_faults : Scope → List ExpressionTree → List CheckError
arguments_faults scope [] = []
arguments_faults scope (e ∷ es) = expression_faults scope e ++ arguments_faults scope es

-- what is wrong with a call, whose value is wanted or dropped
abbrev pub call_faults : Functions → Scope → Bool → CallTree → List CheckError
call_faults f scope wanted c =
    callee_faults (has_body f.bodies c.callee.name) wanted (length c.arguments) c.callee.offset (called f.signatures (meaning_of scope c.callee))
    ++ arguments_faults scope c.arguments

-- the first argument; where there is none, any term would do
abbrev pub first_of : List TermTree → TermTree
first_of [] = P.Constant 0
first_of (e ∷ es) = e

-- the number of a function with a body; of another, any would do
abbrev pub number_of : Option (Bound ℕ) → ℕ
number_of None = 0
number_of (Some b) = b.value

abbrev pub call_given : Functions → Scope → CallTree → GivenTree
call_given f scope c =
    if is_putchar c.callee.name then P.Put (first_of (map (term_of scope) c.arguments))
    else P.Called (number_of (found c.callee.name f.bodies)) (map (term_of scope) c.arguments)

abbrev pub value_faults : Functions → Scope → ValueTree → List CheckError
value_faults f scope (T.Plain e) = expression_faults scope e
value_faults f scope (T.Called c) = call_faults f scope true c

abbrev pub value_given : Functions → Scope → ValueTree → GivenTree
value_given f scope (T.Plain e) = P.Plain (term_of scope e)
value_given f scope (T.Called c) = call_given f scope c
