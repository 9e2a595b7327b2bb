-- Causes of a run in memory, whatever was printed.
use Rattle.std.specs.Prelude.{◌≡◌, ℕ, List, Option, None, Some, slice_index_or}
use Rattle.ints.specs.declared.operators.Op.{Op}
use Rattle.lang_base.specs.declared.program.Named.{Named}
use Rattle.machine.specs.declared.act.Act.{Act}
use Rattle.machine.specs.declared.arguments.Arguments.{Arguments}
use Rattle.linear_language.specs.declared.instruction.Instruction.{Instruction}
use Rattle.linear_language.specs.Function.{FunctionData}
use Rattle.linear_faults.specs.declared.cause.Cause.{Cause}
use Rattle.linear_faults_run.specs.declared.run.Run.{Run}
use Rattle.linear_faults.specs.Causes.{cause_of_operator, cause_of_store, cause_of_act, cause_of_branch, cause_of_return, cause_at, cause_of}
use Rattle.linear_faults_run.specs.Doing.{data_with}
use Rattle.linear_faults_run.specs.Standing.{state_of}

abbrev pub OfOperator : Cause → Op → Arguments → List (Option ℕ) → Type 0
OfOperator cause op names registers =
    (slots : List (Option ℕ)) (globals : List (List ℕ)) (output : List ℕ) → cause ≡ cause_of_operator op names (data_with registers slots globals output)

abbrev pub OfStore : Cause → ℕ → ℕ → ℕ → List (Option ℕ) → Type 0
OfStore cause global index source registers =
    cause ≡ cause_of_store global index source (slice_index_or registers index None) (slice_index_or registers source None)

abbrev pub OfAct : Cause → Act → List (Option ℕ) → Type 0
OfAct cause act registers =
    (slots : List (Option ℕ)) (globals : List (List ℕ)) (output : List ℕ) → cause ≡ cause_of_act act (data_with registers slots globals output)

abbrev pub OfBranch : Cause → ℕ → Arguments → List (Option ℕ) → Type 0
OfBranch cause label names registers =
    (slots : List (Option ℕ)) (globals : List (List ℕ)) (output : List ℕ) → cause ≡ cause_of_branch label names (data_with registers slots globals output)

abbrev pub OfReturn : Cause → Option ℕ → List (Option ℕ) → Type 0
OfReturn cause value registers =
    (slots : List (Option ℕ)) (globals : List (List ℕ)) (output : List ℕ) → cause ≡ cause_of_return value (data_with registers slots globals output)

abbrev pub IsCauseAt : Cause → List (Named FunctionData) → Instruction → List (Option ℕ) → Type 0
IsCauseAt cause functions i registers =
    (slots : List (Option ℕ)) (globals : List (List ℕ)) (output : List ℕ) → cause ≡ cause_at functions (data_with registers slots globals output) (Some i)

-- why the step from where it stands has no answer
abbrev pub IsCause : Cause → List (Named FunctionData) → Run → Type 0
IsCause cause functions r = (output : List ℕ) → cause ≡ cause_of functions (state_of r output)
