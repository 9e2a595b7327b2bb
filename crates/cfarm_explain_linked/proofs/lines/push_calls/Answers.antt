-- Why `push_calls` meets its contract.
use Rattle.std.proofs.Common.{sym, arith}
use Rattle.std.proofs.lemmas.Result.{err_from_is_err_and}
use Rattle.lang_base.proofs.Beginnings.{IsBeginningOf-trans}
use Rattle.cfarm_explain_linked.specs.Lines.{call_text}
use Rattle.cfarm_explain_linked.proofs.Calls.{one_more}
use Rattle.cfarm_explain_linked.proofs.lines.push_calls.Goals as goal

pub loop-call-preserved : goal.loop-call-preserved
loop-call-preserved c =
    one_more (call_text c.args.functions.now) c.args.calls.now c.loop-call.call-index _ c.args.out.now.items
    c.loop-call.out.items c.push_call.new.out.items (omega arith) c.loop-call.invariant c.in_ok-push_call.ensures

-- what is there so far begins with what was there
pub returns-in_err-push_call : goal.returns-in_err-push_call
returns-in_err-push_call c =
    let p = err_from_is_err_and c.from_residual.result c.from_residual.ensures.1 in
    rw p.1 (IsBeginningOf-trans _ _ _ (_, sym c.loop-call.invariant) c.in_err-push_call.ensures)
