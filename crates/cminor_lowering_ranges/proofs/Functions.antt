-- A function that is well formed is lowered to one that is in range.
use Rattle.std.proofs.Common.{◌≡◌, ℕ, suc, ◌+◌, ◌≤◌, Bool, true, false, [], ◌∷◌, length, map, max, arith}
use Rattle.std.proofs.lemmas.List.{length-map}
use Rattle.c_syntax.specs.Trees.{FunctionTree}
use Rattle.c_syntax.specs.Heights as H
use Rattle.c_program.specs.declared.function.Ending.{Ending}
use Rattle.c_program.specs.declared.function.Ending.TheVariants as E
use Rattle.c_checker_rules.specs.declared.meaning.Meaning.{Meaning}
use Rattle.c_checker_rules.specs.declared.meaning.Meaning.TheVariants as M
use Rattle.c_checker_rules.specs.Names.{Scope}
use Rattle.c_checker_rules.specs.Calls.{Functions}
use Rattle.c_checker_rules.specs.Locals.{Here, most_locals}
use Rattle.c_checker_rules.specs.Statements.{after_all, statements_faults}
use Rattle.c_checker_rules.specs.Functions.{opened, parameters_faults, outermost, entered, body_faults, function_of}
use Rattle.cminor_syntax.specs.Trees.{StatementsTree, Done, First}
use Rattle.cminor_syntax.specs.Fits as F
use Rattle.cminor_syntax.specs.Fits.{IsFunction, StatementsFit, statement_count}
use Rattle.cminor_lowering.specs.Actions.{low_actions}
use Rattle.cminor_lowering.specs.Programs.{ends_with_return, low_ending, followed_by, spare_of, low_function}
use Rattle.cminor_lowering.specs.Held.{IsHeldFunction}
use Rattle.cminor_lowering.proofs.Pieces.{sequence_fits, sequence_low}
use Rattle.cminor_lowering_ranges.proofs.Faults.{none_before, none_behind}
use Rattle.cminor_lowering_ranges.proofs.Scopes.{MeaningFits, ScopeFits}
use Rattle.cminor_lowering_ranges.proofs.Values.{FunctionsFit}
use Rattle.cminor_lowering_ranges.proofs.Locals.{all_few}
use Rattle.cminor_lowering_ranges.proofs.Statements.{low_count, statements_fit}
use Rattle.cminor_lowering_ranges.proofs.Heights.{statements_low}
use Rattle.cminor_lowering_ranges.proofs.Files.{parameters_counted, parameters_scope, few_parameters}

-- ---- the end of a body

joined_count : (ss last : StatementsTree) → statement_count (followed_by ss last) ≡ statement_count ss + statement_count last
joined_count Done last = omega arith
joined_count (First s rest) last = omega (arith, joined_count rest last)

joined_fit : (n : ℕ) (ss last : StatementsTree) → StatementsFit n ss → StatementsFit n last → StatementsFit n (followed_by ss last)
joined_fit n Done last fits behind = behind
joined_fit n (First s rest) last fits behind = (fits.0, joined_fit n rest last fits.1 behind)

joined_low : (ss last : StatementsTree) → F.statements_height (followed_by ss last) ≡ max (F.statements_height ss) (F.statements_height last)
joined_low Done last = omega arith
joined_low (First s rest) last = omega (arith, joined_low rest last)

ending_count : (e : Ending) (returned : Bool) → statement_count (low_ending e returned) ≤ 1
ending_count E.ReturnsZero false = omega arith
ending_count E.ReturnsZero true = omega arith
ending_count E.Returns returned = omega arith
ending_count E.GoesWrong returned = omega arith

ending_fits : (n : ℕ) (e : Ending) (returned : Bool) → StatementsFit n (low_ending e returned)
ending_fits n E.ReturnsZero false = (omega arith, tt)
ending_fits n E.ReturnsZero true = tt
ending_fits n E.Returns returned = tt
ending_fits n E.GoesWrong returned = tt

ending_low : (e : Ending) (returned : Bool) → F.statements_height (low_ending e returned) ≤ 2
ending_low E.ReturnsZero false = omega arith
ending_low E.ReturnsZero true = omega arith
ending_low E.Returns returned = omega arith
ending_low E.GoesWrong returned = omega arith

-- ---- the file's names, in a function

no_local : (n : ℕ) (m : Meaning) → MeaningFits 0 m → MeaningFits n m
no_local n (M.Local k t) fits = absurd (omega (arith, fits))
no_local n (M.Variable k t) fits = fits
no_local n (M.Array k t) fits = fits
no_local n (M.Function k) fits = tt

no_locals : (n : ℕ) (scope : Scope) → ScopeFits 0 scope → ScopeFits n scope
no_locals n [] fits = tt
no_locals n (b ∷ bs) fits = (no_local n b.value fits.0, no_locals n bs fits.1)

-- ---- the whole

module _ (f : Functions) (scope : Scope) (g : FunctionTree) (known : FunctionsFit f) (fits : ScopeFits 0 scope) (none : body_faults f scope g ≡ []) where
  file : Here
  file = record { scope = scope; locals = 0 }

  there : Here
  there = entered scope g

  count : ℕ
  count = length g.parameters

  locals : ℕ
  locals = (after_all 1 (entered scope g) g.body).locals

  parameters_none : parameters_faults (record { scope = scope; locals = 0 }) (map opened g.parameters) ≡ []
  parameters_none = none_before (parameters_faults (record { scope = scope; locals = 0 }) (map opened g.parameters)) (statements_faults f (outermost g.result) (entered scope g) g.body) none

  body_none : statements_faults f (outermost g.result) (entered scope g) g.body ≡ []
  body_none = none_behind (parameters_faults (record { scope = scope; locals = 0 }) (map opened g.parameters)) (statements_faults f (outermost g.result) (entered scope g) g.body) none

  same_count : length (map opened g.parameters) ≡ length g.parameters
  same_count = length-map g.parameters opened

  entered_count : (entered scope g).locals ≡ length g.parameters
  entered_count = omega (arith, parameters_counted (record { scope = scope; locals = 0 }) (map opened g.parameters), same_count)

  parameters_few : length g.parameters ≤ 16
  parameters_few = omega (arith, few_parameters (record { scope = scope; locals = 0 }) (map opened g.parameters) parameters_none (omega arith), same_count)

  locals_few : (after_all 1 (entered scope g) g.body).locals ≤ most_locals
  locals_few = all_few f (outermost g.result) (entered scope g) g.body body_none (omega (arith, entered_count, parameters_few))

  pub function_fits : suc (H.statements_height g.body) ≤ H.highest → IsHeldFunction (function_of f scope g) → IsFunction (low_function (function_of f scope g))
  function_fits low short =
      let c = function_of f scope g in
      let spare = spare_of c in
      let few = parameters_few in
      let few_locals = locals_few in
      let same = same_count in
      let last = low_ending c.ending (ends_with_return c.body) in
      let scope_fits = parameters_scope spare (record { scope = scope; locals = 0 }) (map opened g.parameters) (no_locals spare scope fits) (omega arith) in
      let body = statements_fit spare f known (outermost g.result) (entered scope g) g.body scope_fits (omega arith) body_none short.1 in
      let number = joined_count (low_actions spare c.body) last in
      let number_low = low_count spare c.body in
      let number_end = ending_count c.ending (ends_with_return c.body) in
      let short_body = short.0 in
      let round = sequence_low (followed_by (low_actions spare c.body) last) in
      let height = joined_low (low_actions spare c.body) last in
      let height_low = statements_low spare f 1 (entered scope g) g.body in
      let height_end = ending_low c.ending (ends_with_return c.body) in
      record {
        parameters = few;
        within = omega arith;
        variables = omega arith;
        body = sequence_fits (suc spare) (followed_by (low_actions spare c.body) last) (omega arith)
            (joined_fit (suc spare) (low_actions spare c.body) last body (ending_fits (suc spare) c.ending (ends_with_return c.body)));
        low = omega arith;
      }
