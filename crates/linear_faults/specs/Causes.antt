-- Why a step of a program of Linear has no answer, by the state at which it has none. What stands where a step has one says nothing.
use Rattle.std.specs.Prelude.{ℕ, List, length, Option, None, Some, slice_get}
use Rattle.lang_base.specs.declared.program.Named.{Named}
use Rattle.ints.specs.declared.operators.Op.{Op}
use Rattle.locations.specs.declared.location.Location.TheVariants.{InRegister}
use Rattle.machine.specs.declared.act.Act.{Act}
use Rattle.machine.specs.declared.act.Act.TheVariants.{Constant, Operate, Load, Store, Put}
use Rattle.machine.specs.declared.arguments.Arguments.{Arguments}
use Rattle.machine.specs.declared.arguments.Arguments.TheVariants as A
use Rattle.machine.specs.Data.{Data, value_at}
use Rattle.machine.specs.Frames.{State}
use Rattle.linear_language.specs.declared.instruction.Instruction.{Instruction}
use Rattle.linear_language.specs.declared.instruction.Instruction.TheVariants.{Do, Copy, Call, Branch, Return, Label, Goto}
use Rattle.linear_language.specs.Function.{FunctionData}
use Rattle.linear_faults.specs.declared.cause.Cause.{Cause}
use Rattle.linear_faults.specs.declared.cause.Cause.TheVariants.{Undefined, One, Two, Past, NoLabel, NoFunction, OtherArguments, NoInstruction, NoResult, NoMain}

-- an operator on one word, or on two: a word is not there, or it gives nothing for them
abbrev pub cause_of_one : Op → ℕ → Option ℕ → Cause
cause_of_one op r None = Undefined r
cause_of_one op r (Some x) = One op x

abbrev pub cause_of_two : Op → ℕ → ℕ → Option ℕ → Option ℕ → Cause
cause_of_two op r s None y = Undefined r
cause_of_two op r s (Some x) None = Undefined s
cause_of_two op r s (Some x) (Some y) = Two op x y

abbrev pub cause_of_operator : Op → Arguments → Data → Cause
cause_of_operator op (A.One r) d = cause_of_one op r (value_at (InRegister r) d)
cause_of_operator op (A.Two r s) d = cause_of_two op r s (value_at (InRegister r) d) (value_at (InRegister s) d)

-- a cell that is read or written: a word is not there, or the cell
abbrev pub cause_of_load : ℕ → ℕ → Option ℕ → Cause
cause_of_load global index None = Undefined index
cause_of_load global index (Some i) = Past global i

abbrev pub cause_of_store : ℕ → ℕ → ℕ → Option ℕ → Option ℕ → Cause
cause_of_store global index source None w = Undefined index
cause_of_store global index source (Some i) None = Undefined source
cause_of_store global index source (Some i) (Some w) = Past global i

-- plain instructions (Leroy 2009, section 3.3)
abbrev pub cause_of_act : Act → Data → Cause
cause_of_act (Constant target word) d = NoInstruction
cause_of_act (Operate op target arguments) d = cause_of_operator op arguments d
cause_of_act (Load target global index) d = cause_of_load global index (value_at (InRegister index) d)
cause_of_act (Store global index source) d = cause_of_store global index source (value_at (InRegister index) d) (value_at (InRegister source) d)
cause_of_act (Put source target) d = Undefined source

-- a branch: a word is not there, or else its label
abbrev pub cause_of_asked : ℕ → ℕ → Option ℕ → Cause
cause_of_asked label r None = Undefined r
cause_of_asked label r (Some x) = NoLabel label

abbrev pub cause_of_both : ℕ → ℕ → ℕ → Option ℕ → Option ℕ → Cause
cause_of_both label r s None y = Undefined r
cause_of_both label r s (Some x) y = cause_of_asked label s y

abbrev pub cause_of_branch : ℕ → Arguments → Data → Cause
cause_of_branch label (A.One r) d = cause_of_asked label r (value_at (InRegister r) d)
cause_of_branch label (A.Two r s) d = cause_of_both label r s (value_at (InRegister r) d) (value_at (InRegister s) d)

-- a return: its word is not there, or main has none to give
abbrev pub cause_of_given : ℕ → Option ℕ → Cause
cause_of_given r None = Undefined r
cause_of_given r (Some w) = NoResult

abbrev pub cause_of_return : Option ℕ → Data → Cause
cause_of_return None d = NoResult
cause_of_return (Some r) d = cause_of_given r (value_at (InRegister r) d)

-- a call: its function is not there, or takes another number of arguments
abbrev pub cause_of_call : ℕ → ℕ → Option (Named FunctionData) → Cause
cause_of_call function count None = NoFunction function
cause_of_call function count (Some f) = OtherArguments function count

-- an instruction of a program of these functions (Leroy 2009, section 3.4), or none
abbrev pub cause_at : List (Named FunctionData) → Data → Option Instruction → Cause
cause_at functions d None = NoInstruction
cause_at functions d (Some (Do act)) = cause_of_act act d
cause_at functions d (Some (Copy step)) = NoInstruction
cause_at functions d (Some (Call function arguments target)) = cause_of_call function (length arguments) (slice_get functions function)
cause_at functions d (Some (Branch test label)) = cause_of_branch label test.arguments d
cause_at functions d (Some (Return value)) = cause_of_return value d
cause_at functions d (Some (Label label)) = NoInstruction
cause_at functions d (Some (Goto label)) = NoLabel label

abbrev pub cause_in : List (Named FunctionData) → State → Option (Named FunctionData) → Cause
cause_in functions s None = NoMain
cause_in functions s (Some f) = cause_at functions s.here (slice_get f.function.code s.place)

-- why the step from a state has no answer
abbrev pub cause_of : List (Named FunctionData) → State → Cause
cause_of functions s = cause_in functions s (slice_get functions s.function)
