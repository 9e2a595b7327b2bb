-- The statements that calls and values are lowered to are in range.
use Rattle.std.proofs.Common.{◌≡◌, ℕ, zero, suc, ◌<◌, ◌≤◌, Bool, true, false, List, [], ◌∷◌, length, map, Option, Some, None, arith}
use Rattle.std.proofs.lemmas.List.{length-map}
use Rattle.std.specs.Prelude.{if◌then◌else◌, slice_get, ◌==◌}
use Rattle.std.specs.List.{AllByRecursion}
use Rattle.std.specs.Str.{bytes_eq}
use Rattle.std.proofs.lemmas.Bool.{eqb-true}
use Rattle.cminor_syntax.specs.MachineFits.{parameter_limit}
use Rattle.c_checker_scopes.specs.Bound.{Bound, found}
use Rattle.c_syntax.specs.Trees.{ExpressionTree, CallTree, ValueTree}
use Rattle.c_syntax.specs.Trees as T
use Rattle.c_program.specs.declared.action.Target.{Target}
use Rattle.c_program.specs.declared.action.Target.TheVariants as G
use Rattle.c_program.specs.Trees.{GivenTree}
use Rattle.c_program.specs.Trees as P
use Rattle.c_checker_rules.specs.declared.errors.CheckError.TheVariants.{WrongArity, NoBody}
use Rattle.c_checker_rules.specs.declared.meaning.Meaning.{Meaning}
use Rattle.c_checker_rules.specs.declared.meaning.Meaning.TheVariants as M
use Rattle.c_checker_rules.specs.declared.signature.Signature.{Signature}
use Rattle.c_checker_rules.specs.Told.{unless}
use Rattle.c_checker_rules.specs.Names.{Scope, meaning_of}
use Rattle.c_checker_rules.specs.Terms.{term_of}
use Rattle.c_checker_rules.specs.Calls.{Functions, is_putchar, called, void_faults, callee_faults, has_body, arguments_faults, call_faults, first_of, number_of, call_given, value_faults, value_given}
use Rattle.cminor_syntax.specs.Fits.{ExpressionFits, StatementFits, function_limit}
use Rattle.cminor_lowering.specs.Terms.{low_term}
use Rattle.cminor_lowering.specs.Actions.{low_given}
use Rattle.cminor_lowering.specs.Held.{HasWords, GivenHasWords}
use Rattle.cminor_lowering_ranges.proofs.Faults.{none_before, three_parts, holds}
use Rattle.cminor_lowering_ranges.proofs.Scopes.{ScopeFits, TargetFits}
use Rattle.cminor_lowering_ranges.proofs.Terms.{TermFits, term_fits, terms_fit}

-- among so many locals
abbrev pub GivenFits : ℕ → GivenTree → Type 0
GivenFits n (P.Plain e) = TermFits n e
GivenFits n (P.Called g es) = (g < function_limit) × ((length (map low_term es) < 256) × AllByRecursion (ExpressionFits (suc n)) (map low_term es))
GivenFits n (P.Put e) = TermFits n e

abbrev pub BodiesFit : List (Bound ℕ) → Type 0
BodiesFit bodies = AllByRecursion (λ b. b.value < function_limit) bodies

abbrev pub SignatureFits : Signature → Type 0
SignatureFits s = length s.kinds ≤ parameter_limit

pub record FunctionsFit (f : Functions) : Type 0 where
  pub bodies : BodiesFit f.bodies
  pub signatures : AllByRecursion SignatureFits f.signatures

number_fits : (name : List ℕ) (bodies : List (Bound ℕ)) → BodiesFit bodies → number_of (found name bodies) < function_limit
number_fits name [] fits = omega arith
number_fits name (b ∷ bs) fits = at (number_fits name bs fits.1) (bytes_eq name b.name)
  where
    at : number_of (found name bs) < function_limit → (z : Bool) → number_of (if z then Some b else found name bs) < function_limit
    at behind true = fits.0
    at behind false = behind

-- ---- the number of arguments

abbrev SomeSignatureFits : Option Signature → Type 0
SomeSignatureFits None = Unit {0}
SomeSignatureFits (Some s) = SignatureFits s

signature_at : (signatures : List Signature) (n : ℕ) → AllByRecursion SignatureFits signatures → SomeSignatureFits (slice_get signatures n)
signature_at [] n fits = tt
signature_at (s ∷ ss) zero fits = fits.0
signature_at (s ∷ ss) (suc n) fits = signature_at ss n fits.1

called_fits : (signatures : List Signature) (m : Option Meaning) → AllByRecursion SignatureFits signatures → SomeSignatureFits (called signatures m)
called_fits signatures None fits = tt
called_fits signatures (Some (M.Local n t)) fits = tt
called_fits signatures (Some (M.Variable n t)) fits = tt
called_fits signatures (Some (M.Array n t)) fits = tt
called_fits signatures (Some (M.Function n)) fits = signature_at signatures n fits

few_arguments : (body wanted : Bool) (k at : ℕ) (s : Option Signature) → SomeSignatureFits s → callee_faults body wanted k at s ≡ [] → k ≤ parameter_limit
few_arguments body wanted k at None fits e = absurd cc
few_arguments body wanted k at (Some s) fits e =
    let arity = three_parts (unless (k == length s.kinds) (WrongArity at)) (void_faults wanted s.result at) (unless body (NoBody at)) e in
    let same : k ≡ length s.kinds = eqb-true k (length s.kinds) (holds (k == length s.kinds) (WrongArity at) arity.0) in
    omega (arith, same, fits)

-- ---- calls and values

first_fits : (n : ℕ) (scope : Scope) (es : List ExpressionTree) → ScopeFits n scope → HasWords (first_of (map (term_of scope) es)) → TermFits n (first_of (map (term_of scope) es))
first_fits n scope [] fits words = omega arith
first_fits n scope (e ∷ es) fits words = term_fits n scope e fits words

low_count : (scope : Scope) (es : List ExpressionTree) → length (map low_term (map (term_of scope) es)) ≡ length es
low_count scope es = rw (length-map (map (term_of scope) es) low_term) (length-map es (term_of scope))

pub call_fits : (n : ℕ) (f : Functions) (scope : Scope) (wanted : Bool) (c : CallTree) → FunctionsFit f → ScopeFits n scope → call_faults f scope wanted c ≡ [] →
    GivenHasWords (call_given f scope c) → GivenFits n (call_given f scope c)
call_fits n f scope wanted c known fits e words = at (is_putchar c.callee.name) words
  where
    few : length c.arguments ≤ parameter_limit
    few =
        let m = meaning_of scope c.callee in
        let front = none_before (callee_faults (has_body f.bodies c.callee.name) wanted (length c.arguments) c.callee.offset (called f.signatures m)) (arguments_faults scope c.arguments) e in
        few_arguments (has_body f.bodies c.callee.name) wanted (length c.arguments) c.callee.offset (called f.signatures m) (called_fits f.signatures m known.signatures) front

    put : GivenTree
    put = P.Put (first_of (map (term_of scope) c.arguments))

    call : GivenTree
    call = P.Called (number_of (found c.callee.name f.bodies)) (map (term_of scope) c.arguments)

    at : (z : Bool) → GivenHasWords (if z then put else call) → GivenFits n (if z then put else call)
    at true ws = first_fits n scope c.arguments fits ws
    at false ws =
        let count : length (map low_term (map (term_of scope) c.arguments)) < 256 = omega (arith, low_count scope c.arguments, few) in
        (number_fits c.callee.name f.bodies known.bodies, (count, terms_fit n scope c.arguments fits ws))

pub value_fits : (n : ℕ) (f : Functions) (scope : Scope) (v : ValueTree) → FunctionsFit f → ScopeFits n scope → value_faults f scope v ≡ [] →
    GivenHasWords (value_given f scope v) → GivenFits n (value_given f scope v)
value_fits n f scope (T.Plain e) known fits none words = term_fits n scope e fits words
value_fits n f scope (T.Called c) known fits none words = call_fits n f scope true c known fits none words

pub give_fits : (n : ℕ) (target : Target) (v : GivenTree) → TargetFits n target → GivenFits n v → StatementFits (suc n) (low_given n target v)
give_fits n G.Nowhere (P.Plain e) there fits = tt
give_fits n G.Nowhere (P.Called g es) there fits = (fits.0, (tt, fits.1))
give_fits n G.Nowhere (P.Put e) there fits = (tt, fits)
give_fits n (G.Local k) (P.Plain e) there fits = (omega (arith, there), fits)
give_fits n (G.Local k) (P.Called g es) there fits = (fits.0, (omega (arith, there), fits.1))
give_fits n (G.Local k) (P.Put e) there fits = (omega (arith, there), fits)
give_fits n (G.Global g) (P.Plain e) there fits = (there, (omega arith, fits))
give_fits n (G.Global g) (P.Called h es) there fits = (omega arith, ((fits.0, (omega arith, fits.1)), ((there, (omega arith, omega arith)), tt)))
give_fits n (G.Global g) (P.Put e) there fits = (omega arith, ((omega arith, fits), ((there, (omega arith, omega arith)), tt)))
give_fits n G.Caller (P.Plain e) there fits = fits
give_fits n G.Caller (P.Called h es) there fits = (omega arith, ((fits.0, (omega arith, fits.1)), (omega arith, tt)))
give_fits n G.Caller (P.Put e) there fits = (omega arith, ((omega arith, fits), (omega arith, tt)))
