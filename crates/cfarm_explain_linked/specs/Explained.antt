-- What is told of a linked program's run: where it goes wrong, if it does.
use Rattle.std.specs.Prelude.{ℕ, List, Option}
use Rattle.std.specs.Option.{option_map}
use Rattle.lang_base.specs.declared.program.Program.{Program}
use Rattle.linear_language.specs.Function.{FunctionData}
use Rattle.linear_faults.specs.Faults.{fault_of}
use Rattle.cfarm_explain_linked.specs.Lines.{fault_text}

-- of its run of so many instructions
abbrev pub told_of : List ℕ → Program FunctionData → ℕ → Option (List ℕ)
told_of path p limit = option_map (fault_text path p) (fault_of p limit)
