-- Programs of RTL with one text are one program.
use Rattle.std.proofs.Common.{◌≡◌, ℕ, ◌≤◌, ◌^◌, List, [], ◌∷◌, ◌++◌, length, codes, refl, ap, arith}
use Rattle.std.specs.List.{AllByRecursion}
use Rattle.lang_base.specs.declared.program.Named.{Named}
use Rattle.lang_base.specs.declared.program.Program.{Program}
use Rattle.lang_helpers.specs.Limits.{node_limit}
use Rattle.lang.specs.Form.{IsProgram}
use Rattle.rtl_language.specs.Function.{FunctionData, IsFunction, InstructionFits}
use Rattle.rtl_language.specs.declared.instruction.Instruction.{Instruction}
use Rattle.text_keys.specs.Words.{WordFits}
use Rattle.text_keys.proofs.Clear.{Clear, Outside, numbered_clear, Begins}
use Rattle.text_keys.proofs.Names.{ParameterFits}
use Rattle.text_keys.proofs.Reading.{number_of, others, at}
use Rattle.text_common.proofs.Functions.{IsNamed, function_begins, function_clear}
use Rattle.text_common.proofs.Programs.{shown_programs_tell}
use Rattle.text_rtl.specs.Acts.{register_word}
use Rattle.text_rtl.specs.Shown.{shown_node, shown_nodes, size_words, shown_named, shown_rtl}
use Rattle.text_rtl.proofs.Parts.{parameters_fit}
use Rattle.text_rtl.proofs.Read.{Fits, node_clear}

few : (f : FunctionData) → IsFunction f → f.registers ≤ 2 ^ 16
few f fits = omega (arith, fits.registers)

all_fit : (registers nodes : ℕ) → registers ≤ 2 ^ 16 → nodes ≤ node_limit → (is : List Instruction) → AllByRecursion (InstructionFits registers nodes) is → AllByRecursion Fits is
all_fit registers nodes few low [] fits = tt
all_fit registers nodes few low (i ∷ is) fits = (record { registers = registers; nodes = nodes; few = few; low = low; is = fits.0 }, all_fit registers nodes few low is fits.1)

nodes_fit : (f : FunctionData) → IsFunction f → AllByRecursion Fits f.nodes
nodes_fit f fits = all_fit f.registers (length f.nodes) (few f fits) fits.nodes f.nodes fits.each

parts_tell : (f g : FunctionData) (r s : List ℕ) → IsFunction f → IsFunction g → Outside 32 r → Outside 32 s → f.parameters ≡ g.parameters → size_words f ≡ size_words g → shown_nodes f ++ r ≡ shown_nodes g ++ s → (f ≡ g) × (r ≡ s)
parts_tell f g r s fits fits' ends ends' parameters sizes e =
    let nodes = numbered_clear shown_node Fits (λ _. Unit {0}) (Outside 32) 32 (λ n i. (_, refl)) node_clear (λ r ends. tt) (λ r ends. ends) (λ r. tt)
    0 f.nodes g.nodes r s (nodes_fit f fits) (nodes_fit g fits') ends ends' e in
    (λ i. record { parameters = parameters i; registers = at (others (sizes i)); entry = at (others (others (others (sizes i)))); nodes = nodes.0 i }, nodes.1)

registers_tell : (r s : ℕ) → register_word r ≡ register_word s → r ≡ s
registers_tell r s e = ap number_of e

fit_parameters : (f : FunctionData) → IsFunction f → AllByRecursion (ParameterFits register_word) f.parameters
fit_parameters f fits = parameters_fit f.registers (few f fits) f.parameters fits.parameters.each

fit_sizes : (f : FunctionData) → IsFunction f → AllByRecursion WordFits (size_words f)
fit_sizes f fits = (tt, (omega (arith, fits.registers), (tt, (omega (arith, fits.entry, fits.nodes), tt))))

-- the text of a named function tells it, where no line of it follows
pub named_begins : (f : Named FunctionData) → Begins 102 (shown_named f)
named_begins = function_begins register_word (λ f. f.parameters) size_words shown_nodes IsFunction registers_tell fit_parameters fit_sizes parts_tell

pub named_clear : Clear shown_named (IsNamed IsFunction) (Outside 32)
named_clear = function_clear register_word (λ f. f.parameters) size_words shown_nodes IsFunction registers_tell fit_parameters fit_sizes parts_tell

pub one_program : (p q : Program FunctionData) → IsProgram IsFunction p → IsProgram IsFunction q → shown_rtl p ≡ shown_rtl q → p ≡ q
one_program = shown_programs_tell (codes "rtl\n") shown_named IsFunction named_begins named_clear
