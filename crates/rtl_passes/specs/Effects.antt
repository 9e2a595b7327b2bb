-- What an instruction does from some data, whatever waits below its function (Leroy 2009, section 3.2).
use Rattle.std.specs.Prelude.{◌≡◌, ℕ, List, Option, Some, None, Bool, map, if◌then◌else◌}
use Rattle.rtl_language.specs.Data.{Data, value_at}
use Rattle.rtl_language.specs.Acts.{does, holds, with_result}
use Rattle.rtl_language.specs.declared.instruction.Instruction.{Instruction}
use Rattle.rtl_language.specs.declared.instruction.Instruction.TheVariants.{Do, Call, Branch, Return}
use Rattle.rtl_language.specs.Frames.{returned}

-- it goes on at a node with this data; it calls a function, whose result and successor are these; it returns; or it goes wrong
pub data Effect : Type 0 where
  Onward : ℕ → Data → Effect
  Calls : ℕ → List (Option ℕ) → Option ℕ → ℕ → Effect
  Back : Option (Option ℕ) → Effect
  Faults : Effect

abbrev pub onward : ℕ → Option Data → Effect
onward place None = Faults
onward place (Some d) = Onward place d

abbrev pub chooses : ℕ → ℕ → Data → Option Bool → Effect
chooses taken other d None = Faults
chooses taken other d (Some answer) = Onward (if answer then taken else other) d

abbrev pub effect_of : Instruction → Data → Effect
effect_of (Do act successor) d = onward successor (does act d)
effect_of (Call function arguments target successor) d = Calls function (map (λ a. value_at a d) arguments) target successor
effect_of (Branch test taken other) d = chooses taken other d (holds test d)
effect_of (Return value) d = Back (returned value d)

-- something holds at the node and of the data where the function goes on; behind a call of any result, globals and output
abbrev pub HoldsAfter : (ℕ → Data → Type 0) → Data → Effect → Type 0
HoldsAfter Holds d (Onward place e) = Holds place e
HoldsAfter Holds d (Calls function arguments target successor) = (value : Option ℕ) (e : Data) → e.registers ≡ d.registers → Holds successor (with_result target value e)
HoldsAfter Holds d (Back value) = Unit {0}
HoldsAfter Holds d Faults = Unit {0}
