-- Programs of LTL with one text are one program.
use Rattle.std.proofs.Common.{◌≡◌, ℕ, ◌≤◌, ◌^◌, List, [], ◌∷◌, ◌++◌, length, codes, refl, arith}
use Rattle.std.specs.List.{AllByRecursion}
use Rattle.lang_base.specs.declared.program.Named.{Named}
use Rattle.lang_base.specs.declared.program.Program.{Program}
use Rattle.lang_helpers.specs.Limits.{node_limit}
use Rattle.lang.specs.Form.{IsProgram}
use Rattle.ltl.specs.Function.{FunctionData, IsFunction, BlockFits}
use Rattle.ltl.specs.declared.block.Block.{Block}
use Rattle.text_keys.specs.Words.{WordFits}
use Rattle.text_keys.proofs.Clear.{Clear, Outside, numbered_clear, Begins}
use Rattle.text_keys.proofs.Names.{ParameterFits}
use Rattle.text_keys.proofs.Reading.{others, at}
use Rattle.text_common.proofs.Functions.{IsNamed, function_begins, function_clear}
use Rattle.text_common.proofs.Programs.{shown_programs_tell}
use Rattle.text_common.specs.Acts.{location_word}
use Rattle.text_ltl.specs.Shown.{shown_block, shown_blocks, size_words, shown_named, shown_ltl}
use Rattle.text_common.proofs.Read.{location_tells, parameters_fit}
use Rattle.text_ltl.proofs.Read.{Fits, block_clear}

few : (f : FunctionData) → IsFunction f → f.slots ≤ 2 ^ 16
few f fits = omega (arith, fits.slots)

all_fit : (slots nodes : ℕ) → slots ≤ 2 ^ 16 → nodes ≤ node_limit → (is : List Block) → AllByRecursion (BlockFits slots nodes) is → AllByRecursion Fits is
all_fit slots nodes few low [] fits = tt
all_fit slots nodes few low (i ∷ is) fits = (record { slots = slots; nodes = nodes; few = few; low = low; is = fits.0 }, all_fit slots nodes few low is fits.1)

nodes_fit : (f : FunctionData) → IsFunction f → AllByRecursion Fits f.blocks
nodes_fit f fits = all_fit f.slots (length f.blocks) (few f fits) fits.nodes f.blocks fits.each

parts_tell : (f g : FunctionData) (r s : List ℕ) → IsFunction f → IsFunction g → Outside 32 r → Outside 32 s → f.parameters ≡ g.parameters → size_words f ≡ size_words g → shown_blocks f ++ r ≡ shown_blocks g ++ s → (f ≡ g) × (r ≡ s)
parts_tell f g r s fits fits' ends ends' parameters sizes e =
    let nodes = numbered_clear shown_block Fits (λ _. Unit {0}) (Outside 32) 32 (λ n i. (_, refl)) block_clear (λ r ends. tt) (λ r ends. ends) (λ r. tt)
    0 f.blocks g.blocks r s (nodes_fit f fits) (nodes_fit g fits') ends ends' e in
    (λ i. record { parameters = parameters i; slots = at (others (sizes i)); entry = at (others (others (others (sizes i)))); blocks = nodes.0 i }, nodes.1)

fit_parameters : (f : FunctionData) → IsFunction f → AllByRecursion (ParameterFits location_word) f.parameters
fit_parameters f fits = parameters_fit f.slots (few f fits) f.parameters fits.parameters.each

fit_sizes : (f : FunctionData) → IsFunction f → AllByRecursion WordFits (size_words f)
fit_sizes f fits = (tt, (omega (arith, fits.slots), (tt, (omega (arith, fits.entry, fits.nodes), tt))))

-- the text of a named function tells it, where no line of it follows
pub named_begins : (f : Named FunctionData) → Begins 102 (shown_named f)
named_begins = function_begins location_word (λ f. f.parameters) size_words shown_blocks IsFunction location_tells fit_parameters fit_sizes parts_tell

pub named_clear : Clear shown_named (IsNamed IsFunction) (Outside 32)
named_clear = function_clear location_word (λ f. f.parameters) size_words shown_blocks IsFunction location_tells fit_parameters fit_sizes parts_tell

pub one_program : (p q : Program FunctionData) → IsProgram IsFunction p → IsProgram IsFunction q → shown_ltl p ≡ shown_ltl q → p ≡ q
one_program = shown_programs_tell (codes "ltl\n") shown_named IsFunction named_begins named_clear
