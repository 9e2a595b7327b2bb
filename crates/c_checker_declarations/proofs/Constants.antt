-- What is told of an initial expression, by whether its names are declared, whether it has one, and what it is worth.
use Rattle.std.proofs.Common.{rules, ◌≡◌, ℕ, Bool, true, false, List, [], ◌∷◌, ◌++◌, Some, None, refl}
use Rattle.std.specs.Prelude.{◌||◌}
use Rattle.c_syntax.specs.Trees.{ExpressionTree, InitialTree}
use Rattle.c_syntax.specs.Trees as T
use Rattle.c_checker_rules.specs.declared.errors.CheckError.{CheckError}
use Rattle.c_checker_rules.specs.declared.errors.CheckError.TheVariants.{NotConstant}
use Rattle.c_checker_rules.specs.Told.{first}
use Rattle.c_checker_rules.specs.Names.{Scope}
use Rattle.c_checker_rules.specs.Expressions.{expression_faults}
use Rattle.c_checker_rules.specs.Globals.{has_name, constant_of, not_constant, initial_faults}

or_left : (a b : Bool) → a ≡ true → (a || b) ≡ true
or_left true b e = refl
or_left false b e = search (rules)

or_right : (a b : Bool) → b ≡ true → (a || b) ≡ true
or_right true b e = refl
or_right false b e = e

-- a fault of two parts is one of the first or one of the second
either_part : (e : CheckError) (xs ys : List CheckError) (a b : Bool) →
    ((f : CheckError) → first xs ≡ Some f → a ≡ true) → ((f : CheckError) → first ys ≡ Some f → b ≡ true) →
    first (xs ++ ys) ≡ Some e → (a || b) ≡ true
either_part e [] ys a b left right told = or_right a b (right e told)
either_part e (x ∷ xs) ys a b left right told = or_left a b (left x refl)

-- what has a fault has a name
pub faulty_named : (scope : Scope) (x : ExpressionTree) (e : CheckError) → first (expression_faults scope x) ≡ Some e → has_name x ≡ true
faulty_named scope (T.Number c) e told = search (rules)
faulty_named scope (T.Variable x) e told = refl
faulty_named scope (T.Element a i) e told = refl
faulty_named scope (T.Parenthesis x) e told = faulty_named scope x e told
faulty_named scope (T.Cast t x) e told = faulty_named scope x e told
faulty_named scope (T.Unary o x) e told = faulty_named scope x e told
faulty_named scope (T.Binary o a b) e told =
    either_part e (expression_faults scope a) (expression_faults scope b) (has_name a) (has_name b) (faulty_named scope a) (faulty_named scope b) told
faulty_named scope (T.Conditional c a b) e told =
    either_part e (expression_faults scope c ++ expression_faults scope a) (expression_faults scope b) (has_name c || has_name a) (has_name b)
    (λ f. either_part f (expression_faults scope c) (expression_faults scope a) (has_name c) (has_name a) (faulty_named scope c) (faulty_named scope a))
    (faulty_named scope b) told

pub constant_told : (scope : Scope) (i : InitialTree) (w : ℕ) → has_name i.value ≡ false → constant_of scope i.value ≡ Some w → initial_faults scope i ≡ []
constant_told scope i w plain worth = search (rules, plain, worth)

pub fault_told : (scope : Scope) (i : InitialTree) (e : CheckError) → first (expression_faults scope i.value) ≡ Some e → first (initial_faults scope i) ≡ Some (not_constant i.offset (Some e))
fault_told scope i e told = search (rules, faulty_named scope i.value e told, told)

pub name_told : (scope : Scope) (i : InitialTree) → expression_faults scope i.value ≡ [] → has_name i.value ≡ true → first (initial_faults scope i) ≡ Some (NotConstant i.offset)
name_told scope i none named = search (rules, none, named)

pub wrong_told : (scope : Scope) (i : InitialTree) → expression_faults scope i.value ≡ [] → constant_of scope i.value ≡ None → first (initial_faults scope i) ≡ Some (NotConstant i.offset)
wrong_told scope i none wrong = search (rules, none, wrong)
