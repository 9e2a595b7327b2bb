-- What `emit` comes to, on the bytes of its file: what it wrote, and what it answers.
use Rattle.std.specs.Prelude.{◌≡◌, ◌⊎◌, ℕ, List, Option}
use Rattle.cfarm_options.specs.declared.emitted.Emitted.{Emitted}
use Rattle.cfarm_emit.specs.Lines as emit
use Rattle.cfarm_emit.specs.Told.{HasEmitted, IsEmitFault, Printed}
use Rattle.cfarm_emit.specs.declared.error.EmitError.{EmitError}
use Rattle.cfarm_program_status.specs.Telling.{Answer, quiet, told}

abbrev pub emit_fault : EmitError → Answer
emit_fault fault = told (emit.status_of fault) (emit.emit_line fault)

-- the form of the text's program is written, or the text's fault is told
abbrev pub Formed : List ℕ → Emitted → Option ℕ → Answer → Option (List ℕ) → Option (List ℕ) → Type 0
Formed text emitted seed answer before after =
    (HasEmitted text emitted seed before after × (answer ≡ quiet))
    ⊎ ((fault : EmitError) × IsEmitFault text fault × Printed text emitted seed fault before after × (answer ≡ emit_fault fault))
