-- Why `kept_parts` meets its clauses `in_order` and `refused`.
use Rattle.std.proofs.Common.{◌≡◌, subst}
use Rattle.std.specs.Prelude.{OnOk, IfErr}
use Rattle.acceptor_log_form.specs.declared.errors.LogError.TheVariants.{BadRecord}
use Rattle.acceptor_log_form.specs.Fault.{IsMemoryOr}
use Rattle.acceptor_log_form.specs.Order.{KeepOrder}
use Rattle.acceptor_log_form.proofs.rooms.kept_parts.Goals as goal

pub returns-clause-in_order : goal.returns-clause-in_order
returns-clause-in_order c =
    let all_is : c.from-all.result ≡ c.args.rooms = cc in
    subst (λ r. OnOk c.kept_parts_of.result (KeepOrder c.args.header.now r c.args.records.now)) all_is c.kept_parts_of.ensures.in_order

pub returns-clause-refused : goal.returns-clause-refused
returns-clause-refused c =
    let all_is : c.from-all.result ≡ c.args.rooms = cc in
    subst (λ r. IfErr c.kept_parts_of.result (IsMemoryOr BadRecord (KeepOrder c.args.header.now r c.args.records.now → ⊥))) all_is c.kept_parts_of.ensures.refused
