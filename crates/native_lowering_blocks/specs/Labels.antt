-- Which label an instruction names.
use Rattle.std.specs.Prelude.{ℕ, Option, Some, None}
use Rattle.linear_language.specs.declared.instruction.Instruction.{Instruction}
use Rattle.linear_language.specs.declared.instruction.Instruction.TheVariants.{Do, Copy, Call, Branch, Return, Label, Goto}

-- the label that a jump or a branch names
abbrev pub named_by : Instruction → Option ℕ
named_by (Do act) = None
named_by (Copy step) = None
named_by (Call function arguments target) = None
named_by (Branch test label) = Some label
named_by (Return value) = None
named_by (Label label) = None
named_by (Goto label) = Some label
