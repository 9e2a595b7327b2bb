-- The fault of a run in memory, whatever was printed.
use Rattle.std.specs.Prelude.{◌≡◌, ℕ, List, Option}
use Rattle.lang_base.specs.declared.program.Named.{Named}
use Rattle.linear_language.specs.Function.{FunctionData}
use Rattle.linear_faults.specs.declared.fault.Fault.{Fault}
use Rattle.linear_faults_run.specs.declared.run.Run.{Run}
use Rattle.linear_faults.specs.Faults.{fault_at, fault_from}
use Rattle.linear_faults_run.specs.Standing.{state_of}

abbrev pub IsFaultHere : Fault → List (Named FunctionData) → Run → Type 0
IsFaultHere fault functions r = (output : List ℕ) → fault ≡ fault_at functions (state_of r output)

abbrev pub IsFaultFrom : Option Fault → List (Named FunctionData) → ℕ → Run → Type 0
IsFaultFrom found functions limit r = (output : List ℕ) → found ≡ fault_from functions limit (state_of r output)
