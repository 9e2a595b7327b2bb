-- Why `form_of` may call `output_in`.
use denote.Param.Send.{sendable}
use Rattle.farm_nodes_turn_passes.proofs.Sent.{function_send, function_sync}
use Rattle.farm_nodes_agreed.proofs.forms.form_of.Goals as goal

pub output_in-requires-in-Order-send-P-Out-Fun : goal.output_in-requires-in-Order-send-P-Out-Fun
output_in-requires-in-Order-send-P-Out-Fun g c κs = search (function_send, sendable) depth 40

pub output_in-requires-in-Order-sync-P-Out-Fun : goal.output_in-requires-in-Order-sync-P-Out-Fun
output_in-requires-in-Order-sync-P-Out-Fun g c κs = search (function_sync, sendable) depth 40
