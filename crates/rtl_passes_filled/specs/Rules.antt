-- What a pass asks of facts at nodes, over the pass's own rules.
use Rattle.std.specs.Prelude.{◌≡◌, ◌⊎◌, ℕ, ◌<◌, ◌^◌, Bool, List, [], length, Option, Some, All, slice_get, slice_index_or}
use Rattle.rtl_passes_marks.specs.Instruction.{Instruction}
use Rattle.rtl_passes_marks.specs.Function.{FunctionData}
use Rattle.rtl_passes_marks.specs.Shape.{HasSameShape}

-- The rules of a pass: which facts there can be among so many registers, which lists of them are in order, the place of
-- each among all, the register that it speaks of; where an instruction can go on, the fact that it makes known where
-- these are known before it, which it leaves as they are; what is known behind it, and what facts allow it to be made.
pub record RulesOf (A : Type 0) : Type 1 where
  pub Fits : ℕ → A → Type 0
  pub Rise : List A → Type 0
  pub rank : A → ℕ
  pub register : A → ℕ
  pub edges : Instruction → List A → List ℕ
  pub made : Instruction → List A → Option A
  pub keeps : Instruction → A → Bool
  pub IsKnown : Instruction → List A → A → Type 0
  pub Becomes : List A → Instruction → Instruction → Type 0

-- a list of facts, in order
pub record IsInOrder {A : Type 0} (rules : RulesOf A) (registers : ℕ) (facts : List A) : Type 0 where
  pub few : length facts < 2 ^ 16
  pub each : All (rules.Fits registers) facts
  pub rising : rules.Rise facts

-- the facts at a node
abbrev pub facts_at : {A : Type 0} → List (List A) → ℕ → List A
facts_at lists n = slice_index_or lists n []

-- behind the instruction, the facts at a node are known
pub record LeadsTo {A : Type 0} (rules : RulesOf A) (lists : List (List A)) (facts : List A) (i : Instruction) (s : ℕ) : Type 0 where
  pub known : All (rules.IsKnown i facts) (facts_at lists s)

-- so it is at each node where it can go on
abbrev pub LeadsOn : {A : Type 0} → RulesOf A → List (List A) → List A → Instruction → Type 0
LeadsOn rules lists facts i = All (LeadsTo rules lists facts i) (rules.edges i facts)

-- the instruction itself, or what it is made where the facts allow that
abbrev pub MayBecome : {A : Type 0} → RulesOf A → List A → Instruction → Instruction → Type 0
MayBecome rules facts i o = (o ≡ i) ⊎ rules.Becomes facts i o

-- a node keeps the rules with this instruction in the input and that in the output
pub record IsRightAs {A : Type 0} (rules : RulesOf A) (first : ℕ) (lists : List (List A)) (n : ℕ) (i o : Instruction) : Type 0 where
  pub entry : n ≡ first → facts_at lists n ≡ []
  pub leads : LeadsOn rules lists (facts_at lists n) i
  pub becomes : MayBecome rules (facts_at lists n) i o

-- so among these nodes of the input and the output
abbrev pub IsRightIn : {A : Type 0} → RulesOf A → ℕ → List Instruction → List Instruction → List (List A) → ℕ → Type 0
IsRightIn rules first inputs outputs lists n = (i o : Instruction) → slice_get inputs n ≡ Some i → slice_get outputs n ≡ Some o → IsRightAs rules first lists n i o

abbrev pub IsRightAt : {A : Type 0} → RulesOf A → FunctionData → FunctionData → List (List A) → ℕ → Type 0
IsRightAt rules input output lists n = IsRightIn rules input.entry input.nodes output.nodes lists n

-- the register that a fact speaks of is there
abbrev pub IsWithin : {A : Type 0} → RulesOf A → ℕ → A → Type 0
IsWithin rules registers fact = rules.register fact < registers

-- What the meaning rests on: the functions differ in their instructions alone, and at each node stands a list, however
-- long and in whatever order, of facts that speak of registers which are there, and is right.
pub record AreRight {A : Type 0} (rules : RulesOf A) (input output : FunctionData) (lists : List (List A)) : Type 0 where
  pub same : HasSameShape input output
  pub count : length lists ≡ length input.nodes
  pub within : All (All (IsWithin rules input.registers)) lists
  pub nodes : (n : ℕ) → n < length input.nodes → IsRightAt rules input output lists n
