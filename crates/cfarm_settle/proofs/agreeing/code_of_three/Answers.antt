-- Why `code_of_three` meets its contract, and it may call `code_agreed`.
use denote.Param.Send.{sendable}
use Rattle.cfarm_settle.proofs.AgreedLemmas.{some_found}
use Rattle.rooms_function.proofs.Sent.{function_send, function_sync}
use Rattle.cfarm_settle.proofs.agreeing.code_of_three.Goals as goal

pub returns-in-Ok-Some : goal.returns-in-Ok-Some
returns-in-Ok-Some c =
    let it = some_found c.code_agreed.result c.in-Ok-Some.field-0 c.in-Ok-Some.code _ c.in-Ok-Some.is c.in-Ok-Some.field-0-is (c.code_agreed.ensures.agreed c.args.input.now c.requires.1) in
    record { offer = it.offer; node = it.node; input = it.offered; laid_out = it.code.accepted; agreed = it.agreed; keeps = it.code.keeps; spelled = it.code.spells }

pub code_agreed-requires-send-P-In-Fun : goal.code_agreed-requires-send-P-In-Fun
code_agreed-requires-send-P-In-Fun c κs = search (function_send, sendable) depth 40

pub code_agreed-requires-sync-P-In-Fun : goal.code_agreed-requires-sync-P-In-Fun
code_agreed-requires-sync-P-In-Fun c κs = search (function_sync, sendable) depth 40
