-- Each function of a well formed program is lowered to one that is in range.
use Rattle.std.proofs.Common.{◌≡◌, ℕ, ◌<◌, List, [], ◌∷◌, map, Option, Some, None, refl, sym, subst, arith}
use Rattle.std.proofs.lemmas.List.{length-map}
use Rattle.std.specs.Prelude.{is_some, codes}
use Rattle.std.specs.List.{AllByRecursion}
use Rattle.c_checker_scopes.specs.Bound.{Bound, found}
use Rattle.c_syntax.specs.declared.declaration.Prototype.{Prototype}
use Rattle.c_syntax.specs.Trees.{FunctionTree, DeclarationTree, UnitTree}
use Rattle.c_syntax.specs.Trees as T
use Rattle.c_syntax.specs.Heights.{IsLow}
use Rattle.c_checker_rules.specs.declared.errors.CheckError.TheVariants.{NoMain}
use Rattle.c_checker_rules.specs.Told.{unless}
use Rattle.c_checker_rules.specs.Functions.{opened, signature_of, function_name_faults, parameters_faults, body_faults, entered, outermost}
use Rattle.c_checker_rules.specs.Globals.{with_global}
use Rattle.c_checker_rules.specs.Statements.{statements_faults}
use Rattle.c_checker_rules.specs.Units.{File, empty_file, behind, naming, prototyped, known, with_body, bodies_from, bodies_of, globals_from, functions_from, declaration_faults, declarations_faults, IsWellFormed, program_of}
use Rattle.cminor_syntax.specs.Fits.{IsFunction, function_limit}
use Rattle.cminor_lowering.specs.Programs.{low_named, low}
use Rattle.cminor_lowering.specs.Held.{IsHeldFunction, IsHeldProgram}
use Rattle.cminor_lowering_ranges.proofs.Faults.{none_before, none_behind}
use Rattle.cminor_lowering_ranges.proofs.Scopes.{ScopeFits}
use Rattle.cminor_lowering_ranges.proofs.Values.{BodiesFit, SignatureFits}
use Rattle.cminor_lowering_ranges.proofs.Files.{few_parameters, function_scope, signatures_fit, few_functions}
use Rattle.cminor_lowering_ranges.proofs.Globals.{global_scope, sized}
use Rattle.cminor_lowering_ranges.specs.Globals.{IsSized}
use Rattle.cminor_lowering_ranges.proofs.Functions.{function_fits}

record FileFits (file : File) : Type 0 where
  scope : ScopeFits 0 file.scope
  signatures : AllByRecursion SignatureFits file.signatures

-- ---- the numbers of functions

known_name : (number : ℕ) (bodies : List (Bound ℕ)) (name : List ℕ) (b : Bound ℕ) → found name bodies ≡ Some b → with_body number bodies name ≡ bodies
known_name number bodies name b e = search

new_name : (number : ℕ) (bodies : List (Bound ℕ)) (name : List ℕ) → found name bodies ≡ None → with_body number bodies name ≡ record { name = name; depth = 0; value = number } ∷ bodies
new_name number bodies name e = search

with_body_fits : (number : ℕ) (bodies : List (Bound ℕ)) (name : List ℕ) → BodiesFit bodies → number < function_limit → BodiesFit (with_body number bodies name)
with_body_fits number bodies name fits few = at (found name bodies) refl
  where
    at : (r : Option (Bound ℕ)) → found name bodies ≡ r → BodiesFit (with_body number bodies name)
    at None e = subst BodiesFit (sym (new_name number bodies name e)) (few, fits)
    at (Some b) e = subst BodiesFit (sym (known_name number bodies name b e)) fits

module _ (all : List (Bound ℕ)) where
  pub name_none : (file : File) (g : FunctionTree) → declaration_faults all file (T.Function g) ≡ [] → file.defined < function_limit
  name_none file g none =
      let s = signature_of g.result (map opened g.parameters) in
      few_functions (known all file) file.scope g.name s file.defined
      (none_before (function_name_faults (known all file) file.scope g.name s (Some file.defined)) (body_faults (known all (naming file g)) (naming file g).scope g) none)

  body_none : (file : File) (g : FunctionTree) → declaration_faults all file (T.Function g) ≡ [] → body_faults (known all (naming file g)) (naming file g).scope g ≡ []
  body_none file g none =
      let s = signature_of g.result (map opened g.parameters) in
      none_behind (function_name_faults (known all file) file.scope g.name s (Some file.defined)) (body_faults (known all (naming file g)) (naming file g).scope g) none

  pub first_none : (file : File) (d : DeclarationTree) (ds : List DeclarationTree) → declarations_faults all file (d ∷ ds) ≡ [] → declaration_faults all file d ≡ []
  first_none file d ds none = none_before (declaration_faults all file d) (declarations_faults all (behind file d) ds) none

  pub rest_none : (file : File) (d : DeclarationTree) (ds : List DeclarationTree) → declarations_faults all file (d ∷ ds) ≡ [] → declarations_faults all (behind file d) ds ≡ []
  rest_none file d ds none = none_behind (declaration_faults all file d) (declarations_faults all (behind file d) ds) none

  bodies_fit : (file : File) (ds : List DeclarationTree) (bodies : List (Bound ℕ)) → declarations_faults all file ds ≡ [] → BodiesFit bodies → BodiesFit (bodies_from file.defined bodies ds)
  bodies_fit file [] bodies none fits = fits
  bodies_fit file (T.Global g ∷ ds) bodies none fits = bodies_fit (behind file (T.Global g)) ds bodies (rest_none file (T.Global g) ds none) fits
  bodies_fit file (T.Function g ∷ ds) bodies none fits =
      bodies_fit (naming file g) ds (with_body file.defined bodies g.name.name) (rest_none file (T.Function g) ds none)
      (with_body_fits file.defined bodies g.name.name fits (name_none file g (first_none file (T.Function g) ds none)))
  bodies_fit file (T.Prototype' p ∷ ds) bodies none fits = bodies_fit (behind file (T.Prototype' p)) ds bodies (rest_none file (T.Prototype' p) ds none) fits

  -- ---- what is declared

  signature_fits : (file : File) (g : FunctionTree) → declaration_faults all file (T.Function g) ≡ [] → SignatureFits (signature_of g.result (map opened g.parameters))
  signature_fits file g none =
      let scope = (naming file g).scope in
      let parameters = none_before (parameters_faults (record { scope = scope; locals = 0 }) (map opened g.parameters))
      (statements_faults (known all (naming file g)) (outermost g.result) (entered scope g) g.body) (body_none file g none) in
      omega (arith, few_parameters (record { scope = scope; locals = 0 }) (map opened g.parameters) parameters (omega arith), length-map (map opened g.parameters) (λ p. p.kind))

  prototype_fits : (file : File) (p : Prototype) → declaration_faults all file (T.Prototype' p) ≡ [] → SignatureFits (signature_of p.result p.parameters)
  prototype_fits file p none =
      let scope = (prototyped file p).scope in
      let parameters = none_behind (function_name_faults (known all file) file.scope p.name (signature_of p.result p.parameters) None)
      (parameters_faults (record { scope = scope; locals = 0 }) p.parameters) none in
      omega (arith, few_parameters (record { scope = scope; locals = 0 }) p.parameters parameters (omega arith), length-map p.parameters (λ q. q.kind))

  naming_fits : (file : File) (g : FunctionTree) → FileFits file → declaration_faults all file (T.Function g) ≡ [] → FileFits (naming file g)
  naming_fits file g fits none = record {
    scope = function_scope file.signatures file.scope g.name fits.scope;
    signatures = signatures_fit file.signatures file.scope g.name (signature_of g.result (map opened g.parameters)) fits.signatures (signature_fits file g none);
  }

  behind_fits : (file : File) (d : DeclarationTree) → FileFits file → declaration_faults all file d ≡ [] → FileFits (behind file d)
  behind_fits file (T.Global g) fits none = record { scope = global_scope file.scope file.globals file.cells g fits.scope none; signatures = fits.signatures }
  behind_fits file (T.Function g) fits none = naming_fits file g fits none
  behind_fits file (T.Prototype' p) fits none = record {
    scope = function_scope file.signatures file.scope p.name fits.scope;
    signatures = signatures_fit file.signatures file.scope p.name (signature_of p.result p.parameters) fits.signatures (prototype_fits file p none);
  }

  globals_fit : (file : File) (ds : List DeclarationTree) → declarations_faults all file ds ≡ [] → AllByRecursion IsSized (globals_from file ds)
  globals_fit file [] none = tt
  globals_fit file (T.Global g ∷ ds) none =
      (sized file.scope (with_global file.globals file.scope g) file.globals file.cells g (first_none file (T.Global g) ds none), globals_fit (behind file (T.Global g)) ds (rest_none file (T.Global g) ds none))
  globals_fit file (T.Function g ∷ ds) none = globals_fit (behind file (T.Function g)) ds (rest_none file (T.Function g) ds none)
  globals_fit file (T.Prototype' p ∷ ds) none = globals_fit (behind file (T.Prototype' p)) ds (rest_none file (T.Prototype' p) ds none)

  functions_fit : BodiesFit all → (file : File) (ds : List DeclarationTree) → FileFits file → AllByRecursion IsLow ds → declarations_faults all file ds ≡ [] →
      AllByRecursion IsHeldFunction (functions_from all file ds) → AllByRecursion (λ f. IsFunction f.function) (map low_named (functions_from all file ds))
  functions_fit numbers file [] fits low none short = tt
  functions_fit numbers file (T.Global g ∷ ds) fits low none short =
      functions_fit numbers (behind file (T.Global g)) ds (behind_fits file (T.Global g) fits (first_none file (T.Global g) ds none)) low.1 (rest_none file (T.Global g) ds none) short
  functions_fit numbers file (T.Prototype' p ∷ ds) fits low none short =
      functions_fit numbers (behind file (T.Prototype' p)) ds (behind_fits file (T.Prototype' p) fits (first_none file (T.Prototype' p) ds none)) low.1 (rest_none file (T.Prototype' p) ds none) short
  functions_fit numbers file (T.Function g ∷ ds) fits low none short =
      let first = first_none file (T.Function g) ds none in
      let inner = naming_fits file g fits first in (
        function_fits (known all (naming file g)) (naming file g).scope g (record { bodies = numbers; signatures = inner.signatures }) inner.scope (body_none file g first) low.0 short.0,
        functions_fit numbers (naming file g) ds inner low.1 (rest_none file (T.Function g) ds none) short.1,
      )

-- ---- whole programs

pub globals_sized : (u : UnitTree) → IsWellFormed u → AllByRecursion IsSized (program_of u).globals
globals_sized u well =
    let none = none_before (declarations_faults (bodies_of u) empty_file u.declarations) (unless (is_some (found (codes "main") (bodies_of u))) (NoMain u.end)) well in
    globals_fit (bodies_of u) empty_file u.declarations none

pub program_fits : (u : UnitTree) → AllByRecursion IsLow u.declarations → IsWellFormed u → IsHeldProgram (program_of u) → AllByRecursion (λ f. IsFunction f.function) (low (program_of u)).functions
program_fits u low well short =
    let none = none_before (declarations_faults (bodies_of u) empty_file u.declarations) (unless (is_some (found (codes "main") (bodies_of u))) (NoMain u.end)) well in
    functions_fit (bodies_of u) (bodies_fit (bodies_of u) empty_file u.declarations [] none tt) empty_file u.declarations (record { scope = tt; signatures = tt }) low none short
