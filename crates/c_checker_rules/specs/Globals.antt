-- Global variables and arrays (C99 6.7.8 and 6.9.2): what is not well formed in one, and what it begins with.
use Rattle.std.specs.Prelude.{ℕ, ◌+◌, ◌==◌, List, [], ◌∷◌, ◌++◌, length, map, Option, Some, None, is_some, Bool, true, false, not, ◌&&◌, ◌||◌, if◌then◌else◌, nat_lt, nat_le, codes}
use Rattle.std.specs.Str.{bytes_eq}
use Rattle.c_syntax.specs.declared.constant.Constant.{Constant}
use Rattle.c_syntax.specs.Trees.{ExpressionTree, InitialTree, InitializerTree, GlobalTree}
use Rattle.c_syntax.specs.Trees as T
use Rattle.c_program.specs.declared.function.GlobalVariable.{GlobalVariable}
use Rattle.c_program.specs.Values.{nothing_declared, value}
use Rattle.c_checker_rules.specs.declared.errors.CheckError.{CheckError}
use Rattle.c_checker_rules.specs.declared.errors.CheckError.TheVariants.{Undeclared, Redeclared, BadMain, NotConstant, Limit, ArrayUse}
use Rattle.c_checker_rules.specs.declared.meaning.Meaning.{Meaning}
use Rattle.c_checker_rules.specs.declared.meaning.Meaning.TheVariants as M
use Rattle.c_checker_rules.specs.Told.{unless, first}
use Rattle.c_checker_rules.specs.Names.{Scope}
use Rattle.c_checker_rules.specs.Terms.{term_of}
use Rattle.c_checker_rules.specs.Expressions.{expression_faults}
use Rattle.c_checker_rules.specs.Calls.{is_putchar}
use Rattle.c_checker_rules.specs.Locals.{is_short, is_new}

-- most globals, most cells of an array, and most cells of all globals
abbrev pub most_globals : ℕ
most_globals = 1024

abbrev pub most_cells : ℕ
most_cells = 65536

abbrev pub is_main : List ℕ → Bool
is_main name = bytes_eq name (codes "main")

-- a variable without size has one cell
abbrev pub size_of : Option Constant → ℕ
size_of None = 1
size_of (Some c) = c.value

abbrev pub is_size : ℕ → Bool
is_size size = nat_le 1 size && nat_le size most_cells

-- a name stands in the expression
abbrev pub has_name : ExpressionTree → Bool
has_name (T.Number c) = false
has_name (T.Variable x) = true
has_name (T.Element a e) = true
has_name (T.Parenthesis e) = has_name e
has_name (T.Cast t e) = has_name e
has_name (T.Unary o e) = has_name e
has_name (T.Binary o a b) = has_name a || has_name b
has_name (T.Conditional c a b) = has_name c || has_name a || has_name b

-- the word that an expression is worth where nothing is declared
abbrev pub constant_of : Scope → ExpressionTree → Option ℕ
constant_of scope e = value nothing_declared (term_of scope e)

abbrev pub is_constant : Scope → ExpressionTree → Bool
is_constant scope e = not (has_name e) && is_some (constant_of scope e)

-- this fault is that of a name at this very place, which is not declared
abbrev pub is_undeclared_at : ℕ → CheckError → Bool
is_undeclared_at at (Undeclared place) = place == at
is_undeclared_at at e = false

-- What is no constant is told where it begins, unless the name there is not declared.
abbrev pub not_constant : ℕ → Option CheckError → CheckError
not_constant at None = NotConstant at
not_constant at (Some e) = if is_undeclared_at at e then e else NotConstant at

abbrev pub initial_faults : Scope → InitialTree → List CheckError
initial_faults scope i =
    if is_constant scope i.value then [] else not_constant i.offset (first (expression_faults scope i.value)) ∷ []

abbrev pub initials_faults : Scope → List InitialTree → List CheckError
initials_faults scope [] = []
initials_faults scope (i ∷ is) = initial_faults scope i ++ initials_faults scope is

-- the expressions of an initializer
abbrev pub initials_of : Option InitializerTree → List InitialTree
initials_of None = []
initials_of (Some (T.Single i)) = i ∷ []
initials_of (Some (T.Braced is)) = is

-- Braces are for arrays, and hold no more than the array.
abbrev pub suits : Option Constant → Option InitializerTree → Bool
suits size None = true
suits None (Some (T.Single i)) = true
suits (Some c) (Some (T.Single i)) = false
suits None (Some (T.Braced is)) = false
suits (Some c) (Some (T.Braced is)) = nat_le (length is) c.value

-- with so many globals before, of so many cells
abbrev pub is_within : ℕ → ℕ → GlobalTree → Bool
is_within globals cells g = nat_lt globals most_globals && is_size (size_of g.size) && nat_le (cells + size_of g.size) most_cells && is_short g.name

abbrev pub global_name_faults : Scope → ℕ → ℕ → GlobalTree → List CheckError
global_name_faults scope globals cells g =
    unless (is_new 0 scope g.name && not (is_putchar g.name.name)) (Redeclared g.name.offset)
    ++ unless (not (is_main g.name.name)) (BadMain g.name.offset)
    ++ unless (is_within globals cells g) (Limit g.name.offset)
    ++ unless (suits g.size g.initializer) (ArrayUse g.name.offset)

abbrev pub global_meaning : ℕ → GlobalTree → Meaning
global_meaning number g = sized g.size
  where
    sized : Option Constant → Meaning
    sized None = M.Variable number g.kind
    sized (Some c) = M.Array number g.kind

-- the scope of a global begins before its initializer
abbrev pub with_global : ℕ → Scope → GlobalTree → Scope
with_global number scope g = record { name = g.name.name; depth = 0; value = global_meaning number g } ∷ scope

abbrev pub global_faults : Scope → ℕ → ℕ → GlobalTree → List CheckError
global_faults scope globals cells g =
    global_name_faults scope globals cells g ++ initials_faults (with_global globals scope g) (initials_of g.initializer)

-- a word; where there is none, any would do
abbrev pub or_zero : Option ℕ → ℕ
or_zero None = 0
or_zero (Some w) = w

abbrev pub initial_words : Scope → List InitialTree → List ℕ
initial_words scope is = map (λ i. or_zero (constant_of scope i.value)) is

abbrev pub global_of : Scope → GlobalTree → GlobalVariable
global_of scope g = record { cells = size_of g.size; first_words = initial_words scope (initials_of g.initializer) }
