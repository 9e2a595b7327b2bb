-- How a fault of a text is told as an object of JSON.
use Rattle.std.specs.Prelude.{◌≡◌, ◌⊎◌, ℕ, false}
use Rattle.cfarm_output.specs.Errors.{ErrorsHeld}
use Rattle.cfarm_program_status.specs.Telling.{Answer, IsExplained, no_memory, told}
use Rattle.cfarm_program_runs.specs.Objects.{fault_line}
use Rattle.cfarm_program_runs.specs.declared.objects.Refusal.{Refusal}

-- the object with this status, or that there was no memory to make it
abbrev pub IsRefusalAnswer : Refusal → ℕ → Answer → Type 0
IsRefusalAnswer refusal status answer = (answer ≡ no_memory) ⊎ (answer ≡ told status (fault_line refusal))

-- this is told
abbrev pub IsRefusalTold : Refusal → ℕ → ℕ → ErrorsHeld → ErrorsHeld → Type 0
IsRefusalTold refusal status result before after = (answer : Answer) × IsRefusalAnswer refusal status answer × IsExplained false answer result before after
