-- Why `push_calls` meets its contract.
use Rattle.std.proofs.Common.{map, sym, arith}
use Rattle.std.proofs.lemmas.Result.{err_from_is_err_and}
use Rattle.lang_base.proofs.Beginnings.{IsBeginningOf-trans}
use Rattle.c_program.specs.Views.{function_tree}
use Rattle.cfarm_explain.specs.Lines.{call_text}
use Rattle.cfarm_explain.proofs.Calls.{one_more}
use Rattle.cfarm_explain.proofs.lines.push_calls.Goals as goal

pub loop-call-preserved : goal.loop-call-preserved
loop-call-preserved c =
    one_more (call_text (map function_tree c.args.functions.now) c.args.text.now) c.args.calls.now c.loop-call.call-index _ c.args.out.now.items
    c.loop-call.out.items c.push_call.new.out.items (omega arith) c.loop-call.invariant c.in_ok-push_call.ensures

-- what is there so far begins with what was there
pub returns-in_err-push_call : goal.returns-in_err-push_call
returns-in_err-push_call c =
    let p = err_from_is_err_and c.from_residual.result c.from_residual.ensures.1 in
    rw p.1 (IsBeginningOf-trans _ _ _ (_, sym c.loop-call.invariant) c.in_err-push_call.ensures)
