use Rattle.std.proofs.Common.{◌≡◌, ◌+◌, ◌≤◌, length, arith}
use Rattle.std.proofs.lemmas.Result.{IfOk-weaker}
use Rattle.acceptor_log_form.specs.Text.{header_size, blocks}
use Rattle.acceptor_log_writing.proofs.Crash.{length-blocks}
use Rattle.acceptor_log.proofs.opening.load.Goals as goal

pub returns-in-Ok-read-clause-fewer : goal.returns-in-Ok-read-clause-fewer
returns-in-Ok-read-clause-fewer g c =
    IfOk-weaker c.read-in-Ok-read.result (λ found. found.gate ≡ header_size + length (blocks found.records.items)) (λ found. length found.records.items ≤ found.gate)
    (λ found at_gate. omega (arith, at_gate, length-blocks found.records.items)) c.read-in-Ok-read.ensures.gate
