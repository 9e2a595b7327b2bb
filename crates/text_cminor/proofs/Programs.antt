-- Programs of Cminor with one text are one program.
use Rattle.std.proofs.Common.{◌≡◌, ℕ, zero, suc, ◌<◌, ◌≤◌, ◌^◌, List, [], ◌∷◌, ◌++◌, length, take, codes, refl, sym, ap, ◌∙◌, arith}
use Rattle.std.specs.List.{AllByRecursion}
use Rattle.lang_base.specs.declared.program.Named.{Named}
use Rattle.lang_base.specs.declared.program.Program.{Program}
use Rattle.lang.specs.Form.{IsProgram}
use Rattle.cminor_syntax.specs.Fits.{IsFunction}
use Rattle.cminor_syntax.specs.Trees.{FunctionTree}
use Rattle.text_keys.specs.Words.{WordFits}
use Rattle.text_keys.proofs.Clear.{Outside, Begins, Clear}
use Rattle.text_keys.proofs.Names.{ParameterFits}
use Rattle.text_keys.proofs.Reading.{number_of, others, at}
use Rattle.text_common.proofs.Functions.{IsNamed, function_begins, function_clear}
use Rattle.text_common.proofs.Programs.{shown_programs_tell}
use Rattle.text_cminor.specs.Shown.{variable_word, first_variables, parameters_of, size_words, shown_body, shown_named, shown_cminor}
use Rattle.text_cminor.proofs.Statements.{Fits, statement_clear}

few : (f : FunctionTree) → IsFunction f → f.variables ≤ 2 ^ 16
few f fits = omega (arith, fits.variables)

body_fits : (f : FunctionTree) → IsFunction f → Fits f.body
body_fits f fits = record { variables = f.variables; few = few f fits; is = fits.body }

length-take : (n : ℕ) (xs : List ℕ) → n ≤ length xs → length (take n xs) ≡ n
length-take zero xs h = refl
length-take (suc n) [] h = absurd (omega arith)
length-take (suc n) (x ∷ xs) h = ap suc (length-take n xs (omega arith))

counted : (f : FunctionTree) → IsFunction f → length (parameters_of f) ≡ f.parameters
counted f fits = length-take f.parameters first_variables (omega (arith, fits.parameters))

each_small : (n : ℕ) (xs : List ℕ) → AllByRecursion (λ x. x < 2 ^ 64) xs → AllByRecursion (ParameterFits variable_word) (take n xs)
each_small zero xs small = tt
each_small (suc n) [] small = tt
each_small (suc n) (x ∷ xs) small = ((small.0, tt), each_small n xs small.1)

parts_tell : (f g : FunctionTree) (r s : List ℕ) → IsFunction f → IsFunction g → Outside 32 r → Outside 32 s → parameters_of f ≡ parameters_of g → size_words f ≡ size_words g → shown_body f ++ r ≡ shown_body g ++ s → (f ≡ g) × (r ≡ s)
parts_tell f g r s fits fits' ends ends' parameters sizes e =
    let body = statement_clear f.body g.body r s (body_fits f fits) (body_fits g fits') ends ends' e in
    let count = sym (counted f fits) ∙ ap length parameters ∙ counted g fits' in
    (λ i. record { parameters = count i; variables = at (others (sizes i)); body = body.0 i }, body.1)

variables_tell : (v w : ℕ) → variable_word v ≡ variable_word w → v ≡ w
variables_tell v w e = ap number_of e

fit_parameters : (f : FunctionTree) → IsFunction f → AllByRecursion (ParameterFits variable_word) (parameters_of f)
fit_parameters f fits = each_small f.parameters first_variables (omega arith, (omega arith, (omega arith, (omega arith, (omega arith, (omega arith, (omega arith, (omega arith, (omega arith, (omega arith, (omega arith, (omega arith, (omega arith, (omega arith, (omega arith, (omega arith, tt))))))))))))))))

fit_sizes : (f : FunctionTree) → IsFunction f → AllByRecursion WordFits (size_words f)
fit_sizes f fits = (tt, (omega (arith, fits.variables), tt))

-- the text of a named function tells it, where no line of it follows
pub named_begins : (f : Named FunctionTree) → Begins 102 (shown_named f)
named_begins = function_begins variable_word parameters_of size_words shown_body IsFunction variables_tell fit_parameters fit_sizes parts_tell

pub named_clear : Clear shown_named (IsNamed IsFunction) (Outside 32)
named_clear = function_clear variable_word parameters_of size_words shown_body IsFunction variables_tell fit_parameters fit_sizes parts_tell

pub one_program : (p q : Program FunctionTree) → IsProgram IsFunction p → IsProgram IsFunction q → shown_cminor p ≡ shown_cminor q → p ≡ q
one_program = shown_programs_tell (codes "cminor\n") shown_named IsFunction named_begins named_clear
