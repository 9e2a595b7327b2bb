-- Why `read_lent` meets its clauses `stands`, `fewer`, `refused` and `never`.
use Rattle.std.proofs.Common.{◌≡◌, ◌≢◌, ◌+◌, ◌≤◌, List, ℕ, length, subst, arith}
use Rattle.std.proofs.lemmas.Result.{IfOk-weaker, IfErr-weaker}
use Rattle.acceptor_log_form.specs.Fault.{HasFault}
use Rattle.acceptor_log_form.specs.Text.{header_size, blocks, StandsFor}
use Rattle.acceptor_log_form.specs.declared.errors.LogError.TheVariants as fault
use Rattle.acceptor_log_writing.proofs.Crash.{length-blocks}
use Rattle.farm_nodes_open_journals.proofs.Listed.{no_device}
use Rattle.farm_nodes_open_journals.proofs.listing.read_lent.Goals as goal

pub returns-clause-stands : goal.returns-clause-stands
returns-clause-stands g c whole =
    IfOk-weaker c.read.result _ _ (λ found stands. subst (λ (b : List ℕ). StandsFor c.args.header.now found.records.items b) (c.lent.ensures whole) stands) c.read.ensures.ok

pub returns-clause-fewer : goal.returns-clause-fewer
returns-clause-fewer g c =
    IfOk-weaker c.read.result (λ found. found.gate ≡ header_size + length (blocks found.records.items)) (λ found. length found.records.items ≤ found.gate)
    (λ found at_gate. omega (arith, at_gate, length-blocks found.records.items)) c.read.ensures.gate

pub returns-clause-refused : goal.returns-clause-refused
returns-clause-refused g c whole =
    IfErr-weaker c.read.result _ _ (λ e refused memory. subst (λ (b : List ℕ). HasFault c.args.header.now b e) (c.lent.ensures whole) (refused memory)) c.read.ensures.refused

pub returns-clause-never : goal.returns-clause-never
returns-clause-never g c =
    IfErr-weaker c.read.result _ (λ e. e ≢ fault.Device) (λ e refused. no_device c.args.header.now c.lent.result.now e refused) c.read.ensures.refused
