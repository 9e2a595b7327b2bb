-- What `emit` says of a C text, and what it prints.
use Rattle.std.specs.Prelude.{◌≡◌, ℕ, List, Option}
use Rattle.std.specs.Io.KnownBytes.{Appends}
use Rattle.sha2.specs.Sha256.{sha256}
use Rattle.c_syntax.specs.Trees.{UnitTree}
use Rattle.c_checker_rules.specs.Units.{program_of}
use Rattle.farm_nodes_source.specs.Accepted.{IsAccepted}
use Rattle.farm_nodes_source.specs.Refused.{IsUnprepared}
use Rattle.cfarm_output.specs.Begun.{IsBegun}
use Rattle.cfarm_options.specs.declared.emitted.Emitted.{Emitted}
use Rattle.cfarm_emit.specs.Made.{IsMadeOf}
use Rattle.cfarm_emit.specs.declared.error.EmitError.{EmitError}
use Rattle.cfarm_emit.specs.declared.error.EmitError.TheVariants.{Source, NoMemory, Write}

-- the text is accepted, and these are the bytes of the form of its program
abbrev pub IsEmitted : List ℕ → Emitted → Option ℕ → List ℕ → Type 0
IsEmitted text of seed bytes = (u : UnitTree) × IsAccepted text u × IsMadeOf (sha256 text) (program_of u) of seed bytes

abbrev pub HasEmitted : List ℕ → Emitted → Option ℕ → Option (List ℕ) → Option (List ℕ) → Type 0
HasEmitted text of seed before after = (bytes : List ℕ) × IsEmitted text of seed bytes × Appends before after bytes

-- the first fault of the text, or its first function that needs too many nodes
abbrev pub IsEmitFault : List ℕ → EmitError → Type 0
IsEmitFault text (Source fault) = IsUnprepared text fault
IsEmitFault text NoMemory = Unit {0}
IsEmitFault text Write = Unit {0}

-- where it is refused nothing is printed; a writer that fails holds a beginning of the form
abbrev pub Printed : List ℕ → Emitted → Option ℕ → EmitError → Option (List ℕ) → Option (List ℕ) → Type 0
Printed text of seed (Source fault) before after = after ≡ before
Printed text of seed NoMemory before after = after ≡ before
Printed text of seed Write before after = (bytes : List ℕ) × IsEmitted text of seed bytes × IsBegun bytes before after
