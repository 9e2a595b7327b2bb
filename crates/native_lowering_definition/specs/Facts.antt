-- What is known before an instruction: the words of some registers, and of at most one register that it is not 0 exactly where a
-- condition holds of the flags.
use Rattle.std.specs.Prelude.{ℕ, ◌==◌, Bool, true, false, List, Option, Some, None, if◌then◌else◌, replicate, slice_index_or, slice_set}
use Rattle.ints.specs.declared.conditions.Cond.{Cond}
use Rattle.ints.specs.declared.conditions.Cond.TheVariants.{Nz}
use Rattle.x86_syntax.specs.declared.condition.Condition.{Condition}
use Rattle.x86_syntax.specs.declared.condition.Condition.TheVariants.{Equal, NotEqual}
use Rattle.x86_syntax.specs.declared.operators.Operator.TheVariants as o
use Rattle.locations.specs.declared.location.Location.{Location}
use Rattle.locations.specs.declared.location.Location.TheVariants.{InRegister, InSlot}
use Rattle.machine.specs.declared.act.Act.{Act}
use Rattle.machine.specs.declared.act.Act.TheVariants.{Constant, Operate, Load, Store, Put}
use Rattle.machine.specs.declared.arguments.Arguments.{Arguments}
use Rattle.machine.specs.declared.arguments.Arguments.TheVariants.{One, Two}
use Rattle.machine.specs.declared.test.Test.{Test}
use Rattle.linear_language.specs.declared.instruction.Instruction.{Instruction}
use Rattle.linear_language.specs.declared.instruction.Instruction.TheVariants.{Do, Copy, Call, Branch, Return, Label, Goto}
use Rattle.native_lowering_definition.specs.Kinds.{Kind, Turns, Makes, Shifts, Divides, Compares, AsksZero, kind_of}
use Rattle.native_lowering_definition.specs.Powers.{power_known}

pub record Facts : Type 0 where
  pub words : List (Option ℕ)
  pub flag : Option (ℕ × Condition)

-- nothing is known
abbrev pub no_facts : Facts
no_facts = record { words = replicate 8 None; flag = None }

-- the word of a register, if it is known
abbrev pub known : ℕ → Facts → Option ℕ
known r facts = slice_index_or facts.words r None

-- what is known of the flags, unless it is of this register
abbrev pub unless : ℕ → Option (ℕ × Condition) → Option (ℕ × Condition)
unless r None = None
unless r (Some p) = if p.0 == r then None else Some p

-- a register has a word that is known, or not; the flags stay
abbrev pub set : ℕ → Option ℕ → Facts → Facts
set r word facts = record { words = slice_set facts.words r word; flag = unless r facts.flag }

-- so it has; and this is known of the flags
abbrev pub left : ℕ → Option (ℕ × Condition) → Facts → Facts
left r flag facts = record { words = slice_set facts.words r None; flag = flag }

-- nothing is known of the flags
abbrev pub without_flag : Facts → Facts
without_flag facts = record facts { flag = None }

-- what an operator with this target leaves known of the flags
abbrev pub flag_behind : Kind → ℕ → Option (ℕ × Condition)
flag_behind (Turns op) d = None
flag_behind (Makes o.Add) d = None
flag_behind (Makes o.Sub) d = None
flag_behind (Makes o.Mul) d = None
flag_behind (Makes o.And) d = Some (d, NotEqual)
flag_behind (Makes o.Or) d = Some (d, NotEqual)
flag_behind (Makes o.Xor) d = Some (d, NotEqual)
flag_behind (Shifts op) d = None
flag_behind (Divides signed quotient) d = None
flag_behind (Compares condition) d = Some (d, condition)
flag_behind AsksZero d = Some (d, Equal)

-- what a division, signed or not, leaves where its divisor is 2 ^ k: an unsigned rest is masked
abbrev pub flag_behind_power : Option ℕ → Bool → Bool → ℕ → Option (ℕ × Condition)
flag_behind_power None signed quotient d = None
flag_behind_power (Some k) true quotient d = None
flag_behind_power (Some k) false true d = None
flag_behind_power (Some k) false false d = Some (d, NotEqual)

-- the same of an operator with these arguments
abbrev pub flag_left : Kind → Arguments → ℕ → Facts → Option (ℕ × Condition)
flag_left (Divides signed quotient) (Two a b) d facts = flag_behind_power (power_known (known b facts) signed) signed quotient d
flag_left kind arguments d facts = flag_behind kind d

abbrev pub written : Option ℕ → Facts → Facts
written None facts = without_flag facts
written (Some r) facts = left r None facts

abbrev pub after_act : Act → Facts → Facts
after_act (Constant target word) facts = set target (Some word) facts
after_act (Operate op target arguments) facts = left target (flag_left (kind_of op) arguments target facts) facts
after_act (Load target global index) facts = left target None facts
after_act (Store global index source) facts = without_flag facts
after_act (Put source target) facts = written target facts

abbrev pub after_move : Location → Facts → Facts
after_move (InRegister r) facts = set r None facts
after_move (InSlot s) facts = facts

abbrev pub condition_if : Bool → Condition → Option Condition
condition_if answer condition = if answer then Some condition else None

-- the condition that answers whether a register is not 0, where one is known
abbrev pub answer_of : ℕ → Option (ℕ × Condition) → Option Condition
answer_of r None = None
answer_of r (Some p) = condition_if (p.0 == r) p.1

-- the condition that answers a test, where one is known
abbrev pub answered_for : Cond → Arguments → Facts → Option Condition
answered_for Nz (One r) facts = answer_of r facts.flag
answered_for condition arguments facts = None

abbrev pub answered : Test → Facts → Option Condition
answered test facts = answered_for test.condition test.arguments facts

abbrev pub after_test : Option Condition → Facts → Facts
after_test None facts = without_flag facts
after_test (Some condition) facts = facts

-- what is known behind an instruction
abbrev pub after : Instruction → Facts → Facts
after (Do act) facts = after_act act facts
after (Copy step) facts = after_move step.target facts
after (Call function arguments target) facts = no_facts
after (Branch test label) facts = after_test (answered test facts) facts
after (Return value) facts = without_flag facts
after (Label label) facts = facts
after (Goto label) facts = without_flag facts
