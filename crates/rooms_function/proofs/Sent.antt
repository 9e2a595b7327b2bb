-- An LTL function may go to another thread, and others may see it: part by part, since a `search` through all of it runs out of steps.
use denote.Param.Send.{IsSend, IsSync, sendable}
use Rattle.std.proofs.Crossing.{crosses}
use Rattle.lang_base.specs.contracts.row.Row as row
use Rattle.locations.specs.contracts.location.Location as location
use Rattle.locations.specs.contracts.location.Move as move
use Rattle.linearize_check.specs.Act as act
use Rattle.linearize_check.specs.Block as block
use Rattle.linearize_check.specs.Body as body
use Rattle.linearize_check.specs.Function as function

act_send : IsSend act.the_row
act_send = search (sendable, crosses) depth 40 fits 20000

act_sync : IsSync act.the_row
act_sync = search (sendable, crosses) depth 40 fits 20000

moves_send : IsSend (row.the_row move.the_row)
moves_send = search (sendable, crosses) depth 40 fits 20000

moves_sync : IsSync (row.the_row move.the_row)
moves_sync = search (sendable, crosses) depth 40 fits 20000

locations_send : IsSend (row.the_row location.the_row)
locations_send = search (sendable, crosses) depth 40 fits 20000

locations_sync : IsSync (row.the_row location.the_row)
locations_sync = search (sendable, crosses) depth 40 fits 20000

body_send : IsSend body.the_field.row
body_send = search (act_send, moves_send, locations_send, sendable, crosses) depth 60 fits 20000

body_sync : IsSync body.the_field.row
body_sync = search (act_sync, moves_sync, locations_sync, sendable, crosses) depth 60 fits 20000

block_send : IsSend block.the_row
block_send = search (body_send, sendable, crosses) depth 60 fits 20000

block_sync : IsSync block.the_row
block_sync = search (body_sync, sendable, crosses) depth 60 fits 20000

pub function_send : IsSend function.the_row
function_send = search (block_send, sendable, crosses) depth 60 fits 20000

pub function_sync : IsSync function.the_row
function_sync = search (block_sync, sendable, crosses) depth 60 fits 20000
