-- The rules of the pass, with a whole list of equations for each node: the output does with locations what the input does
-- with registers (Rideau and Leroy 2010). A proposal marks rows in place of lists: alloc_check_proof.specs.Allocated.
use Rattle.std.specs.Prelude.{◌≡◌, ◌≢◌, ◌⊎◌, ℕ, ◌<◌, ◌^◌, List, [], ◌∷◌, length, Option, Some, None, All, Contains, slice_get, slice_index_or}
use Rattle.locations.specs.declared.location.Location.{Location}
use Rattle.locations.specs.declared.location.Location.TheVariants.{InRegister, InSlot}
use Rattle.locations.specs.declared.location.Move.{Move}
use Rattle.locations.specs.Fits.{LocationFits}
use Rattle.rtl_passes.specs.Fits.{RegisterFits}
use Rattle.rtl_passes.specs.Instruction.{Instruction}
use Rattle.rtl_passes.specs.Function as rtl
use Rattle.ltl.specs.declared.block.Block.{Block}
use Rattle.ltl.specs.Function as ltl
use Rattle.rtl_passes.specs.Faults.{KeepsRules}
use Rattle.alloc_check_rules.specs.declared.equation.Equation.{Equation}
use Rattle.alloc_check_rules.specs.declared.change.Change.{Change}
use Rattle.alloc_check_rules.specs.declared.demand.Demand.{Demand}
use Rattle.alloc_check_rules.specs.declared.demand.Demand.TheVariants.{Met, Refused, Needs}
use Rattle.alloc_check_rules.specs.Equations.{back_equation, demand}
use Rattle.alloc_check_rules.specs.Pairs.{change_of, equations_of, uses, successors_of}

-- an input with more registers has no baseline
abbrev pub baseline_limit : ℕ
baseline_limit = 2048

abbrev pub IsTooLarge : rtl.FunctionData → Type 0
IsTooLarge input = baseline_limit < input.registers

-- ---- the form

-- one of so many registers, and a location among so many slots
abbrev pub EquationFits : ℕ → ℕ → Equation → Type 0
EquationFits registers slots e = RegisterFits registers e.register × LocationFits slots e.location

-- registers stand before slots
abbrev pub IsLower : Location → Location → Type 0
IsLower (InRegister r) (InRegister q) = r < q
IsLower (InRegister r) (InSlot s) = Unit {0}
IsLower (InSlot s) (InRegister r) = ⊥
IsLower (InSlot s) (InSlot t) = s < t

-- by the register, and then by the location: the order of their written bytes
abbrev pub IsBefore : Equation → Equation → Type 0
IsBefore first second =
    (first.register < second.register) ⊎ ((first.register ≡ second.register) × IsLower first.location second.location)

-- each comes before the next
abbrev pub Rise : List Equation → Type 0
Rise [] = Unit {0}
Rise (e ∷ []) = Unit {0}
Rise (e ∷ (next ∷ es)) = IsBefore e next × Rise (next ∷ es)

-- a list of equations, in order
pub record IsInOrder (registers slots : ℕ) (es : List Equation) : Type 0 where
  pub few : length es < 2 ^ 16
  pub each : All (EquationFits registers slots) es
  pub rising : Rise es

-- The form: as many parameters and nodes, the same entry, and each node has a list in order.
pub record HasShape (input : rtl.FunctionData) (output : ltl.FunctionData) (lists : List (List Equation)) : Type 0 where
  pub parameters : length output.parameters ≡ length input.parameters
  pub entry : output.entry ≡ input.entry
  pub nodes : length output.blocks ≡ length input.nodes
  pub count : length lists ≡ length input.nodes
  pub each : All (IsInOrder input.registers output.slots) lists

-- ---- the rules at a node

-- the equations at a node
abbrev pub equations_at : List (List Equation) → ℕ → List Equation
equations_at lists n = slice_index_or lists n []

-- an equation behind a block's first moves holds by one that is among those before the block
abbrev pub IsGiven : List Equation → List Move → Equation → Type 0
IsGiven es before e = Contains es (back_equation before e)

abbrev pub IsAnswered : List Equation → List Move → Demand → Type 0
IsAnswered es before Met = Unit {0}
IsAnswered es before Refused = ⊥
IsAnswered es before (Needs e) = IsGiven es before e

-- with these equations before the block, and what it defines, the equations at a node where it goes on hold
pub record LeadsTo (lists : List (List Equation)) (es : List Equation) (b : Block) (change : Change) (s : ℕ) : Type 0 where
  pub answered : All (λ e. IsAnswered es b.before (demand b.body change e)) (equations_at lists s)

-- The words that are used lie where the block looks for them, and the equations hold where it goes on.
pub record IsCarried (lists : List (List Equation)) (es : List Equation) (i : Instruction) (b : Block) (change : Change) : Type 0 where
  pub uses : All (IsGiven es b.before) (uses i b.body)
  pub leads : All (LeadsTo lists es b change) (successors_of i)

-- the block stands for the instruction
abbrev pub StandsFor : List (List Equation) → List Equation → Instruction → Block → Option Change → Type 0
StandsFor lists es i b None = ⊥
StandsFor lists es i b (Some change) = IsCarried lists es i b change

-- At the entry an equation is of a parameter and its location, or of a register and a location that are no parameter's.
pub record IsNoParameter (registers : List ℕ) (locations : List Location) (e : Equation) : Type 0 where
  pub register : All (λ r. r ≢ e.register) registers
  pub location : All (λ l. l ≢ e.location) locations

abbrev pub HoldsAtEntry : List ℕ → List Location → Equation → Type 0
HoldsAtEntry registers locations e = Contains (equations_of registers locations) e ⊎ IsNoParameter registers locations e

-- a node keeps the rules with this instruction of the input and this block of the output
pub record IsRightAs (input : rtl.FunctionData) (output : ltl.FunctionData) (lists : List (List Equation)) (n : ℕ) (i : Instruction) (b : Block) : Type 0 where
  pub entry : n ≡ input.entry → All (HoldsAtEntry input.parameters output.parameters) (equations_at lists n)
  pub stands : StandsFor lists (equations_at lists n) i b (change_of i b.body)

abbrev pub IsRightAt : rtl.FunctionData → ltl.FunctionData → List (List Equation) → ℕ → Type 0
IsRightAt input output lists n =
    (i : Instruction) (b : Block) → slice_get input.nodes n ≡ Some i → slice_get output.blocks n ≡ Some b → IsRightAs input output lists n i b

-- The form is kept, and each node keeps the rules.
abbrev pub IsAllocated : rtl.FunctionData → ltl.FunctionData → List (List Equation) → Type 0
IsAllocated input output lists = KeepsRules (HasShape input output lists) (IsRightAt input output lists) (length input.nodes)
