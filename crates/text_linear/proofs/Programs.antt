-- Programs of Linear with one text are one program.
use Rattle.std.proofs.Common.{◌≡◌, ℕ, ◌≤◌, ◌^◌, List, [], ◌∷◌, ◌++◌, codes, refl, arith}
use Rattle.std.specs.List.{AllByRecursion}
use Rattle.lang_base.specs.declared.program.Named.{Named}
use Rattle.lang_base.specs.declared.program.Program.{Program}
use Rattle.lang.specs.Form.{IsProgram}
use Rattle.linear_language.specs.Function.{FunctionData, IsFunction, InstructionFits}
use Rattle.linear_language.specs.declared.instruction.Instruction.{Instruction}
use Rattle.text_keys.specs.Words.{WordFits}
use Rattle.text_keys.proofs.Clear.{Clear, Outside, many_clear, Begins}
use Rattle.text_keys.proofs.Names.{ParameterFits}
use Rattle.text_keys.proofs.Reading.{others, at}
use Rattle.text_common.proofs.Functions.{IsNamed, function_begins, function_clear}
use Rattle.text_common.proofs.Programs.{shown_programs_tell}
use Rattle.text_common.specs.Acts.{location_word}
use Rattle.text_common.proofs.Read.{location_tells, parameters_fit}
use Rattle.text_linear.specs.Shown.{shown_instruction, shown_code, size_words, shown_named, shown_linear}
use Rattle.text_linear.proofs.Read.{Fits, instruction_clear}

few : (f : FunctionData) → IsFunction f → f.slots ≤ 2 ^ 16
few f fits = omega (arith, fits.slots)

all_fit : (slots : ℕ) → slots ≤ 2 ^ 16 → (is : List Instruction) → AllByRecursion (InstructionFits slots) is → AllByRecursion Fits is
all_fit slots few [] fits = tt
all_fit slots few (i ∷ is) fits = (record { slots = slots; few = few; is = fits.0 }, all_fit slots few is fits.1)

code_fits : (f : FunctionData) → IsFunction f → AllByRecursion Fits f.code
code_fits f fits = all_fit f.slots (few f fits) f.code fits.each

parts_tell : (f g : FunctionData) (r s : List ℕ) → IsFunction f → IsFunction g → Outside 32 r → Outside 32 s → f.parameters ≡ g.parameters → size_words f ≡ size_words g → shown_code f ++ r ≡ shown_code g ++ s → (f ≡ g) × (r ≡ s)
parts_tell f g r s fits fits' ends ends' parameters sizes e =
    let code = many_clear shown_instruction Fits (λ _. Unit {0}) (Outside 32) 32 (λ i. (_, refl)) instruction_clear (λ r ends. tt) (λ r ends. ends) (λ r. tt)
    f.code g.code r s (code_fits f fits) (code_fits g fits') ends ends' e in
    (λ i. record { parameters = parameters i; slots = at (others (sizes i)); code = code.0 i }, code.1)

fit_parameters : (f : FunctionData) → IsFunction f → AllByRecursion (ParameterFits location_word) f.parameters
fit_parameters f fits = parameters_fit f.slots (few f fits) f.parameters fits.parameters.each

fit_sizes : (f : FunctionData) → IsFunction f → AllByRecursion WordFits (size_words f)
fit_sizes f fits = (tt, (omega (arith, fits.slots), tt))

-- the text of a named function tells it, where no line of it follows
pub named_begins : (f : Named FunctionData) → Begins 102 (shown_named f)
named_begins = function_begins location_word (λ f. f.parameters) size_words shown_code IsFunction location_tells fit_parameters fit_sizes parts_tell

pub named_clear : Clear shown_named (IsNamed IsFunction) (Outside 32)
named_clear = function_clear location_word (λ f. f.parameters) size_words shown_code IsFunction location_tells fit_parameters fit_sizes parts_tell

pub one_program : (p q : Program FunctionData) → IsProgram IsFunction p → IsProgram IsFunction q → shown_linear p ≡ shown_linear q → p ≡ q
one_program = shown_programs_tell (codes "linear\n") shown_named IsFunction named_begins named_clear
