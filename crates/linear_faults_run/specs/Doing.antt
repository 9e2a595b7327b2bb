-- What plain instructions do to the words and the globals, whatever the slots hold and was printed before.
use Rattle.std.specs.Prelude.{◌≡◌, ℕ, List, [], ◌∷◌, ◌++◌, Option, Some, None, Bool, true, false, option_and_then, slice_get, slice_index_or}
use Rattle.std.specs.Option.{option_map}
use Rattle.ints.specs.MachineTable.{machine_table}
use Rattle.ints.specs.declared.operators.Op.{Op}
use Rattle.machine.specs.declared.act.Act.{Act}
use Rattle.machine.specs.declared.arguments.Arguments.{Arguments}
use Rattle.machine.specs.declared.test.Test.{Test}
use Rattle.machine.specs.Acts.{word_in, words_of, given, changed, stored, printing, does, holds}
use Rattle.machine.specs.Data.{Data}
use Rattle.linear_faults_run.specs.declared.outcome.Outcome.{Outcome}
use Rattle.linear_faults_run.specs.declared.outcome.Outcome.TheVariants.{Done, Printed, Failed}

abbrev pub data_with : List (Option ℕ) → List (Option ℕ) → List (List ℕ) → List ℕ → Data
data_with registers slots globals output = record { registers = registers; slots = slots; globals = globals; output = output }

-- the data after an instruction, if it has an answer; a byte that is printed comes behind the output
abbrev pub data_after : Outcome → List (Option ℕ) → List (Option ℕ) → List (List ℕ) → List ℕ → Option Data
data_after Done registers slots globals output = Some (data_with registers slots globals output)
data_after (Printed byte) registers slots globals output = Some (data_with registers slots globals (output ++ byte ∷ []))
data_after Failed registers slots globals output = None

-- where an instruction has no answer this is as it was
abbrev pub IsKept : {A : Type 0} → Outcome → A → A → Type 0
IsKept Done before after = Unit {0}
IsKept (Printed byte) before after = Unit {0}
IsKept Failed before after = after ≡ before

-- this is what an instruction comes to
abbrev pub Does : Outcome → Act → List (Option ℕ) → List (List ℕ) → List (Option ℕ) → List (List ℕ) → Type 0
Does outcome act registers globals later changed =
    (slots : List (Option ℕ)) (output : List ℕ) → does act (data_with registers slots globals output) ≡ data_after outcome later slots changed output

-- this is what an operator answers, if it does
abbrev pub Answers : Option ℕ → Op → Arguments → List (Option ℕ) → Type 0
Answers answer op names registers =
    (slots : List (Option ℕ)) (globals : List (List ℕ)) (output : List ℕ)
    → answer ≡ option_and_then (machine_table op) (words_of names (data_with registers slots globals output))

-- a register gets its word, if there is one
abbrev pub Gives : Outcome → ℕ → Option ℕ → List (Option ℕ) → List (Option ℕ) → Type 0
Gives outcome target answer registers later =
    (slots : List (Option ℕ)) (globals : List (List ℕ)) (output : List ℕ)
    → given target (data_with registers slots globals output) answer ≡ data_after outcome later slots globals output

-- the word in the cell that a register names
abbrev pub IsRead : Option ℕ → ℕ → ℕ → List (Option ℕ) → List (List ℕ) → Type 0
IsRead answer global index registers globals = answer ≡ option_and_then (word_in (slice_get globals global)) (slice_index_or registers index None)

-- where it was not done this is as it was
abbrev pub IsLeft : {A : Type 0} → Bool → A → A → Type 0
IsLeft true before after = Unit {0}
IsLeft false before after = after ≡ before

-- this, where it was done
abbrev pub where_done : {A : Type 0} → Bool → A → Option A
where_done true x = Some x
where_done false x = None

-- a global's cell becomes this word, if there is such a cell
abbrev pub Changes : Bool → ℕ → ℕ → ℕ → List (List ℕ) → List (List ℕ) → Type 0
Changes done global index word globals later =
    (registers slots : List (Option ℕ)) (output : List ℕ)
    → changed (data_with registers slots globals output) global index word (slice_get globals global) ≡ where_done done (data_with registers slots later output)

-- the cell that a register names becomes the word of another
abbrev pub Stores : Bool → ℕ → ℕ → ℕ → List (Option ℕ) → List (List ℕ) → List (List ℕ) → Type 0
Stores done global index source registers globals later =
    (slots : List (Option ℕ)) (output : List ℕ)
    → stored (data_with registers slots globals output) global (slice_index_or registers index None) (slice_index_or registers source None)
    ≡ where_done done (data_with registers slots later output)

-- the low bits of a register's word are printed
abbrev pub Puts : Outcome → ℕ → Option ℕ → List (Option ℕ) → List (Option ℕ) → Type 0
Puts outcome source target registers later =
    (slots : List (Option ℕ)) (globals : List (List ℕ)) (output : List ℕ)
    → option_map (printing target (data_with registers slots globals output)) (slice_index_or registers source None) ≡ data_after outcome later slots globals output

-- this is what a test answers
abbrev pub Asks : Option Bool → Test → List (Option ℕ) → Type 0
Asks answer test registers = (slots : List (Option ℕ)) (globals : List (List ℕ)) (output : List ℕ) → answer ≡ holds test (data_with registers slots globals output)
