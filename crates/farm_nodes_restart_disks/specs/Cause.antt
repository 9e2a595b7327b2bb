-- Why a node is not restarted over a pair of disks.
use Rattle.std.specs.Prelude.{◌≡◌, ◌⊎◌, ℕ, List, Option}
use Rattle.durable_pair.specs.Images.{Images, IsSpent}
use Rattle.acceptor_log_form.specs.declared.errors.LogError.TheVariants as log
use Rattle.acceptor_log_form.specs.declared.header.Header.{Header}
use Rattle.farm_nodes_turn_step.specs.declared.stop.Pending.{Pending}
use Rattle.farm_nodes_restart_node.specs.Fours.{Four}
use Rattle.farm_nodes_restart_node.specs.Texts.{Texts}
use Rattle.farm_nodes_restart_node.specs.Returned.{HasReason}
use Rattle.farm_nodes_restart_seat.specs.declared.fault.RestartFault.{RestartFault}
use Rattle.farm_nodes_restart_seat.specs.declared.fault.RestartFault.TheVariants.{NoMemory, Journal, OtherRecords, CellRefused}

-- why nothing of the new disk is read: memory was refused, or the device failed; or the old journal counts, and then the new disk
-- has none
abbrev pub HasCauseBefore : List ℕ → RestartFault → Type 0
HasCauseBefore old NoMemory = Unit {0}
HasCauseBefore old (Journal e) = (e ≡ log.Device) ⊎ ((IsSpent old → ⊥) × (e ≡ log.NotAJournal))
HasCauseBefore old OtherRecords = ⊥
HasCauseBefore old CellRefused = ⊥

-- or else the old journal counts no more, and the node doesn't come back over the new disk's bytes
abbrev pub HasCauseOn : {X1 X2 X3 X4 : Type 0} → Texts X1 X2 X3 X4 → Header → ℕ → List (Four X1 X2 X3 X4) → ℕ → Option Pending → Images → RestartFault → Type 0
HasCauseOn texts h rooms seats room p im NoMemory = Unit {0}
HasCauseOn texts h rooms seats room p im (Journal e) =
    HasCauseBefore im.1 (Journal e) ⊎ (IsSpent im.1 × HasReason texts h rooms seats room p im.0 (Journal e))
HasCauseOn texts h rooms seats room p im OtherRecords = IsSpent im.1 × HasReason texts h rooms seats room p im.0 OtherRecords
HasCauseOn texts h rooms seats room p im CellRefused = IsSpent im.1 × HasReason texts h rooms seats room p im.0 CellRefused
