-- What is declared at the place of a declaration: no locals, globals that are there, and functions with at most 16 parameters.
use Rattle.std.proofs.Common.{◌≡◌, ℕ, suc, ◌+◌, ◌<◌, ◌≤◌, List, [], ◌∷◌, ◌++◌, length, Option, Some, None, refl, sym, subst, arith}
use Rattle.std.specs.Prelude.{not, ◌&&◌, ◌||◌, nat_lt}
use Rattle.std.specs.List.{AllByRecursion}
use Rattle.std.proofs.lemmas.Bool.{ltb-true, and_parts}
use Rattle.cminor_syntax.proofs.Distinct.{all_append}
use Rattle.c_syntax.specs.declared.constant.IntegerType.{IntegerType}
use Rattle.c_checker_scopes.specs.Bound.{Bound, found}
use Rattle.c_syntax.specs.declared.identifier.Identifier.{Identifier}
use Rattle.c_syntax.specs.declared.declaration.OpenParameter.{OpenParameter}
use Rattle.c_checker_rules.specs.declared.errors.CheckError.TheVariants.{Redeclared, BadMain, Limit}
use Rattle.c_checker_rules.specs.declared.meaning.Meaning.{Meaning}
use Rattle.c_checker_rules.specs.declared.meaning.Meaning.TheVariants as M
use Rattle.c_checker_rules.specs.declared.signature.Signature.{Signature}
use Rattle.c_checker_rules.specs.Told.{unless}
use Rattle.c_checker_rules.specs.Names.{Scope}
use Rattle.c_checker_rules.specs.Calls.{Functions}
use Rattle.c_checker_rules.specs.Locals.{Here, is_new, is_short}
use Rattle.c_checker_rules.specs.Globals.{is_main}
use Rattle.c_checker_rules.specs.Functions.{most_parameters, same_signature, takes_nothing, is_redeclared, is_countable, function_name_faults, with_parameter, with_parameters, parameter_faults, parameters_faults, with_function, with_signature}
use Rattle.cminor_syntax.specs.Fits.{function_limit}
use Rattle.cminor_lowering_ranges.proofs.Faults.{none_before, none_behind, three_parts, holds}
use Rattle.cminor_lowering_ranges.proofs.Scopes.{ScopeFits}
use Rattle.cminor_lowering_ranges.proofs.Values.{SignatureFits}

-- ---- parameters

module _ (h : Here) (kind : IntegerType) (offset : ℕ) where
  abbrev one : Option Identifier → OpenParameter
  one name = record { kind = kind; name = name; offset = offset }

  counted : (name : Option Identifier) → (with_parameter h (one name)).locals ≡ suc h.locals
  counted None = refl
  counted (Some x) = refl

  in_scope : (n : ℕ) (name : Option Identifier) → ScopeFits n h.scope → h.locals < n → ScopeFits n (with_parameter h (one name)).scope
  in_scope n None fits within = fits
  in_scope n (Some x) fits within = (within, fits)

  one_few : (name : Option Identifier) → parameter_faults h (one name) ≡ [] → h.locals < most_parameters
  one_few None none = ltb-true h.locals most_parameters (holds (nat_lt h.locals most_parameters) (Limit offset) none)
  one_few (Some x) none =
      let limit = none_behind (unless (is_new 1 h.scope x) (Redeclared x.offset)) (unless (nat_lt h.locals most_parameters && is_short x) (Limit x.offset)) none in
      let parts = and_parts (nat_lt h.locals most_parameters) (is_short x) (holds (nat_lt h.locals most_parameters && is_short x) (Limit x.offset) limit) in
      ltb-true h.locals most_parameters parts.0

pub parameters_counted : (h : Here) (ps : List OpenParameter) → (with_parameters h ps).locals ≡ h.locals + length ps
parameters_counted h [] = omega arith
parameters_counted h (p ∷ ps) = omega (arith, parameters_counted (with_parameter h p) ps, counted h p.kind p.offset p.name)

pub parameters_scope : (n : ℕ) (h : Here) (ps : List OpenParameter) → ScopeFits n h.scope → h.locals + length ps ≤ n → ScopeFits n (with_parameters h ps).scope
parameters_scope n h [] fits within = fits
parameters_scope n h (p ∷ ps) fits within =
    let one_more = counted h p.kind p.offset p.name in
    let here : h.locals < n = omega arith in
    parameters_scope n (with_parameter h p) ps (in_scope h p.kind p.offset n p.name fits here) (omega arith)

pub few_parameters : (h : Here) (ps : List OpenParameter) → parameters_faults h ps ≡ [] → h.locals ≤ most_parameters → h.locals + length ps ≤ most_parameters
few_parameters h [] none within = omega arith
few_parameters h (p ∷ ps) none within =
    let one_more = counted h p.kind p.offset p.name in
    let here = one_few h p.kind p.offset p.name (none_before (parameter_faults h p) (parameters_faults (with_parameter h p) ps) none) in
    let rest = few_parameters (with_parameter h p) ps (none_behind (parameter_faults h p) (parameters_faults (with_parameter h p) ps) none) (omega arith) in
    omega arith

-- ---- names of functions

new_name : (signatures : List Signature) (scope : Scope) (x : Identifier) → found x.name scope ≡ None →
    with_function signatures scope x ≡ record { name = x.name; depth = 0; value = M.Function (length signatures) } ∷ scope
new_name signatures scope x e = search

old_name : (signatures : List Signature) (scope : Scope) (x : Identifier) (b : Bound Meaning) → found x.name scope ≡ Some b → with_function signatures scope x ≡ scope
old_name signatures scope x b e = search

pub function_scope : (signatures : List Signature) (scope : Scope) (x : Identifier) → ScopeFits 0 scope → ScopeFits 0 (with_function signatures scope x)
function_scope signatures scope x fits = at (found x.name scope) refl
  where
    at : (r : Option (Bound Meaning)) → found x.name scope ≡ r → ScopeFits 0 (with_function signatures scope x)
    at None e = subst (ScopeFits 0) (sym (new_name signatures scope x e)) (tt, fits)
    at (Some b) e = subst (ScopeFits 0) (sym (old_name signatures scope x b e)) fits

new_signature : (signatures : List Signature) (scope : Scope) (x : Identifier) (s : Signature) → found x.name scope ≡ None → with_signature signatures scope x s ≡ signatures ++ s ∷ []
new_signature signatures scope x s e = search

old_signature : (signatures : List Signature) (scope : Scope) (x : Identifier) (s : Signature) (b : Bound Meaning) → found x.name scope ≡ Some b → with_signature signatures scope x s ≡ signatures
old_signature signatures scope x s b e = search

pub signatures_fit : (signatures : List Signature) (scope : Scope) (x : Identifier) (s : Signature) → AllByRecursion SignatureFits signatures → SignatureFits s →
    AllByRecursion SignatureFits (with_signature signatures scope x s)
signatures_fit signatures scope x s fits one_more = at (found x.name scope) refl
  where
    at : (r : Option (Bound Meaning)) → found x.name scope ≡ r → AllByRecursion SignatureFits (with_signature signatures scope x s)
    at None e = subst (AllByRecursion SignatureFits) (sym (new_signature signatures scope x s e)) (all_append SignatureFits signatures (s ∷ []) fits (one_more, tt))
    at (Some b) e = subst (AllByRecursion SignatureFits) (sym (old_signature signatures scope x s b e)) fits

pub few_functions : (f : Functions) (scope : Scope) (x : Identifier) (s : Signature) (number : ℕ) → function_name_faults f scope x s (Some number) ≡ [] → number < function_limit
few_functions f scope x s number none =
    let parts = three_parts (unless (not (is_redeclared f scope x s (Some number))) (Redeclared x.offset)) (unless (not (is_main x.name) || same_signature s takes_nothing) (BadMain x.offset))
    (unless (is_countable (Some number) && is_short x) (Limit x.offset)) none in
    let limit = and_parts (is_countable (Some number)) (is_short x) (holds (is_countable (Some number) && is_short x) (Limit x.offset) parts.2) in
    ltb-true number function_limit limit.0
