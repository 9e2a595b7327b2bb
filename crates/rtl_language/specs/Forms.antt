-- The reading of RTL is a form: each spelling is read again, and nothing else is read.
use Rattle.std.proofs.Common.{◌≡◌, ℕ, ◌<◌, ◌≤◌, ◌^◌, List, [], ◌++◌, length, Option, Ok, refl, arith}
use Rattle.std.specs.List.{AllByRecursion, flat_map}
use Rattle.lang_base.specs.Reading.{byte, both, follow}
use Rattle.lang_base.proofs.Forms.{IsForm}
use Rattle.lang_helpers.specs.Graphs.{node}
use Rattle.lang_helpers.specs.Limits.{function_number}
use Rattle.lang_helpers.proofs.Limits.{function_number_form}
use Rattle.lang_helpers.proofs.Graphs.{node_form, TwoNodesFit, two_nodes_form, AllNodesFit, GraphFits, nodes_form, graph_of_form}
use Rattle.lang_base.proofs.Parts.{byte_form, made_takes, made_again, made_form, fits_form, both_form}
use Rattle.lang_base.proofs.Lists.{counted_form, each_fits, fits_each, HasCode, TakesBehind, follow_form, coded_form, tagged_form}
use Rattle.rtl_acts.specs.declared.act.Act.{Act}
use Rattle.rtl_acts.specs.declared.act.Act.TheVariants.{Nop, Constant, Move, Operate, Load, Store, Put}
use Rattle.rtl_acts.specs.declared.test.Test.{Test}
use Rattle.rtl_acts.specs.Fits.{RegisterFits, TargetFits, ActFits, TestFits}
use Rattle.rtl_acts.specs.Spelling.{byte_text, register_text, registers_text, target_text, act_code, act_body, test_text, frame_text}
use Rattle.rtl_acts.specs.Reading.{register, target, asked, act, frame}
use Rattle.rtl_acts.proofs.Forms.{register_form, target_form, test_form, act_form, FrameFits, frame_form}
use Rattle.rtl_language.specs.declared.instruction.Instruction.{Instruction}
use Rattle.rtl_language.specs.declared.instruction.Instruction.TheVariants.{Do, Call, Branch, Return}
use Rattle.rtl_language.specs.Function.{FunctionData, InstructionFits, IsFunction, function_limit}
use Rattle.rtl_language.specs.Spelling.{node_text, instruction_code, instruction_body, instruction_text, graph_text, tag, spelling}
use Rattle.rtl_language.specs.Reading.{call_arguments, call, branch, instructions, plain, instruction, nodes, graph, parts, function}

-- ---- an instruction

module _ (registers count : ℕ) (few_registers : registers ≤ 2 ^ 16) (few : count ≤ 2 ^ 16) where
  abbrev ArgumentListFits : List ℕ → Type 0
  ArgumentListFits rs = (length rs < 256) × AllByRecursion (RegisterFits registers) rs

  call_arguments_form : IsForm (call_arguments registers) registers_text ArgumentListFits
  unfolding call_arguments
  call_arguments_form =
      fits_form (counted_form (λ before. register registers) register_text (λ before. RegisterFits registers) (λ before. register_form registers few_registers) byte byte_text (λ n. n < 256) byte_form)
      (λ rs fits. (fits.0, each_fits (RegisterFits registers) [] rs fits.1))
      (λ rs fits. (fits.0, fits_each (RegisterFits registers) [] rs fits.1))

  abbrev CallParts : Type 0
  CallParts = ℕ × (List ℕ × (Option ℕ × ℕ))

  abbrev call_of : CallParts → Instruction
  call_of p = Call p.0 p.1.0 p.1.1.0 p.1.1.1

  abbrev call_text : CallParts → List ℕ
  call_text p = byte_text p.0 ++ (registers_text p.1.0 ++ (target_text p.1.1.0 ++ node_text p.1.1.1))

  abbrev CallPartsFit : CallParts → Type 0
  CallPartsFit p = (p.0 < function_limit) × (ArgumentListFits p.1.0 × (TargetFits registers p.1.1.0 × (p.1.1.1 < count)))

  call_parts : IsForm (both function_number (λ f. both (call_arguments registers) (λ arguments. both (target registers) (λ t. node count)))) call_text CallPartsFit
  call_parts =
      both_form function_number byte_text (λ n. n < function_limit) function_number_form
      (λ f. both (call_arguments registers) (λ arguments. both (target registers) (λ t. node count))) (λ f p. registers_text p.0 ++ (target_text p.1.0 ++ node_text p.1.1)) (λ f p. ArgumentListFits p.0 × (TargetFits registers p.1.0 × (p.1.1 < count)))
      (λ f fits. both_form (call_arguments registers) registers_text ArgumentListFits call_arguments_form
      (λ arguments. both (target registers) (λ t. node count)) (λ arguments p. target_text p.0 ++ node_text p.1) (λ arguments p. TargetFits registers p.0 × (p.1 < count))
      (λ arguments fits. both_form (target registers) target_text (TargetFits registers) (target_form registers few_registers) (λ t. node count) (λ t. node_text) (λ t n. n < count) (λ t fits. node_form count few)))

  abbrev At : ℕ → Instruction → Type 0
  At code i = HasCode instruction_code instruction_body (InstructionFits registers count) code i

  call_fits : (p : CallParts) → CallPartsFit p → InstructionFits registers count (call_of p)
  call_fits p fits = (record { function = fits.0; few = omega (arith, fits.1.0.0); arguments = fits.1.0.1; target = fits.1.1.0 }, fits.1.1.1)

  call_takes : TakesBehind instruction_code instruction_body (InstructionFits registers count) 6 (call registers count)
  unfolding call
  call_takes = made_takes call_of call_parts instruction_body (At 6) (λ p fits. (refl, (call_fits p fits, refl)))

  abbrev BranchParts : Type 0
  BranchParts = Test × (ℕ × ℕ)

  abbrev branch_text : BranchParts → List ℕ
  branch_text p = test_text p.0 ++ (node_text p.1.0 ++ node_text p.1.1)

  abbrev BranchFits : BranchParts → Type 0
  BranchFits p = TestFits registers p.0 × TwoNodesFit count p.1

  branch_parts : IsForm (both (asked registers) (λ t. both (node count) (λ taken. node count))) branch_text BranchFits
  branch_parts = both_form (asked registers) test_text (TestFits registers) (test_form registers few_registers) (λ t. both (node count) (λ taken. node count)) (λ t p. node_text p.0 ++ node_text p.1) (λ t. TwoNodesFit count) (λ t fits. two_nodes_form count few)

  branch_takes : TakesBehind instruction_code instruction_body (InstructionFits registers count) 8 (branch registers count)
  unfolding branch
  branch_takes = made_takes (λ (p : BranchParts). Branch p.0 p.1.0 p.1.1) branch_parts instruction_body (At 8) (λ p fits. (refl, ((fits.0, fits.1.0, fits.1.1), refl)))

  abbrev PlainParts : Type 0
  PlainParts = Act × ℕ

  abbrev plain_text : PlainParts → List ℕ
  plain_text p = act_body p.0 ++ node_text p.1

  abbrev PlainFits : ℕ → PlainParts → Type 0
  PlainFits code p = HasCode act_code act_body (ActFits registers) code p.0 × (p.1 < count)

  plain_parts : (code : ℕ) → IsForm (both (act registers code) (λ a. node count)) plain_text (PlainFits code)
  plain_parts code = both_form (act registers code) act_body (HasCode act_code act_body (ActFits registers) code) (act_form registers few_registers code) (λ a. node count) (λ a. node_text) (λ a n. n < count) (λ a fits. node_form count few)

  plain_takes : (code : ℕ) → TakesBehind instruction_code instruction_body (InstructionFits registers count) code (plain registers count code)
  unfolding plain
  plain_takes code = made_takes (λ (p : PlainParts). Do p.0 p.1) (plain_parts code) instruction_body (At code) (λ p fits. (refl, ((fits.0.0, fits.1), fits.0.1)))

  plain_again : (a : Act) (successor : ℕ) (rest : List ℕ) → ActFits registers a → successor < count → plain registers count (act_code a) ((act_body a ++ node_text successor) ++ rest) ≡ Ok (Do a successor, rest)
  unfolding plain
  plain_again a successor rest fits below = made_again (λ (p : PlainParts). Do p.0 p.1) (plain_parts (act_code a)) (a, successor) rest ((fits, refl), below)

  instruction_again : (i : Instruction) (rest : List ℕ) → InstructionFits registers count i → follow (instructions registers count) (plain registers count) (instruction_code i) (instruction_body i ++ rest) ≡ Ok (i, rest)
  unfolding call branch
  instruction_again (Do Nop s) rest fits = plain_again Nop s rest fits.0 fits.1
  instruction_again (Do (Constant target word) s) rest fits = plain_again (Constant target word) s rest fits.0 fits.1
  instruction_again (Do (Move target source) s) rest fits = plain_again (Move target source) s rest fits.0 fits.1
  instruction_again (Do (Operate op target arguments) s) rest fits = plain_again (Operate op target arguments) s rest fits.0 fits.1
  instruction_again (Do (Load target global index) s) rest fits = plain_again (Load target global index) s rest fits.0 fits.1
  instruction_again (Do (Store global index source) s) rest fits = plain_again (Store global index source) s rest fits.0 fits.1
  instruction_again (Do (Put source target) s) rest fits = plain_again (Put source target) s rest fits.0 fits.1
  instruction_again (Call function arguments target s) rest fits =
      let few_arguments : length arguments < 256 = omega (arith, fits.0.few) in
      made_again call_of call_parts (function, (arguments, (target, s))) rest (fits.0.function, ((few_arguments, fits.0.arguments), (fits.0.target, fits.1)))
  instruction_again (Branch test taken other) rest fits = made_again (λ (p : BranchParts). Branch p.0 p.1.0 p.1.1) branch_parts (test, (taken, other)) rest (fits.0, (fits.1, fits.2))
  instruction_again (Return value) rest fits = made_again (λ v. Return v) (target_form registers few_registers) value rest fits

  instruction_form : IsForm (instruction registers count) instruction_text (InstructionFits registers count)
  unfolding instruction
  instruction_form =
      coded_form instruction_code instruction_body (InstructionFits registers count) (follow (instructions registers count) (plain registers count))
      (follow_form instruction_code instruction_body (InstructionFits registers count) (instructions registers count) (plain registers count)
      (call_takes, (branch_takes, (made_takes (λ v. Return v) (target_form registers few_registers) instruction_body (At 9) (λ v fits. (refl, (fits, refl))), tt)))
      plain_takes instruction_again)

  node_list_form : IsForm (nodes registers count) (flat_map instruction_text) (AllNodesFit (InstructionFits registers) count)
  unfolding nodes
  node_list_form = nodes_form (instruction registers count) instruction_text (InstructionFits registers) count instruction_form

-- ---- the graph

graph_form : (registers : ℕ) → registers ≤ 2 ^ 16 → IsForm (graph registers) graph_text (GraphFits (InstructionFits registers))
unfolding graph
graph_form registers few_registers = graph_of_form (nodes registers) instruction_text (InstructionFits registers) (λ count few. node_list_form registers count few_registers few)

-- ---- the function

abbrev Parts : Type 0
Parts = (List ℕ × ℕ) × (ℕ × List Instruction)

abbrev pub function_of : Parts → FunctionData
function_of p = record { parameters = p.0.0; registers = p.0.1; entry = p.1.0; nodes = p.1.1 }

abbrev PartsFit : Parts → Type 0
PartsFit p = FrameFits p.0 × GraphFits (InstructionFits p.0.1) p.1

abbrev parts_text : Parts → List ℕ
parts_text p = frame_text p.0 ++ graph_text p.1

pub parts_form : IsForm parts parts_text PartsFit
unfolding parts
parts_form = both_form frame frame_text FrameFits frame_form (λ f. graph f.1) (λ f. graph_text) (λ f. GraphFits (InstructionFits f.1)) (λ f fits. let few : f.1 ≤ 2 ^ 16 = omega (arith, fits.1) in graph_form f.1 few)

pub parts_fit : (p : Parts) → PartsFit p → IsFunction (function_of p)
parts_fit p fits = record { parameters = fits.0.0; registers = fits.0.1; entry = fits.1.entry; nodes = omega (arith, fits.1.nodes); each = fits.1.each }

fit_parts : (f : FunctionData) → IsFunction f → PartsFit ((f.parameters, f.registers), (f.entry, f.nodes))
fit_parts f fits = ((fits.parameters, fits.registers), record { entry = fits.entry; nodes = omega (arith, fits.nodes); each = fits.each })

pub function_form : IsForm function spelling IsFunction
unfolding function
function_form =
    tagged_form tag
    (made_form function_of parts_form (λ f. frame_text (f.parameters, f.registers) ++ graph_text (f.entry, f.nodes)) IsFunction
    (λ p fits. (refl, parts_fit p fits))
    (λ f fits. (((f.parameters, f.registers), (f.entry, f.nodes)), fit_parts f fits, refl)))
