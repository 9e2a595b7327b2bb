-- The record of a step.
use Rattle.std.specs.Prelude.{ℕ, ◌<◌, ◌%◌, List, [], ◌∷◌, Option, Some, None}
use Rattle.paxos_core_node_steps.specs.declared.step.Step.{Step}
use Rattle.paxos_core_node_steps.specs.declared.step.Step.TheVariants as step
use Rattle.acceptor_log_form.specs.declared.record.Record.{Record}
use Rattle.acceptor_log_form.specs.declared.record.Record.TheVariants.{Started, Proposed, Promised, Accepted}

-- the record of a step in a room; a value is a node's number, so its low byte is all of it
abbrev pub record_of : ℕ → Step → Record
record_of room (step.Start b) = Started room b
record_of room (step.Promise b) = Promised room b
record_of room (step.Propose b v) = Proposed room b (v % 256)
record_of room (step.Accept b v) = Accepted room b v

-- a vote's value has one byte
abbrev pub IsByte : Step → Type 0
IsByte (step.Accept b v) = v < 256
IsByte other = Unit {0}

-- the record of a step, where there is one
abbrev pub records_of : ℕ → Option Step → List Record
records_of room None = []
records_of room (Some s) = record_of room s ∷ []
