-- Why `push_fault` meets its contract.
use Rattle.std.proofs.Common.{◌++◌, ap, subst, ◌∙◌}
use Rattle.std.specs.Prelude.{slice_get}
use Rattle.lang_base.specs.Texts.{Appends}
use Rattle.text_keys.proofs.Appending.{appends_behind}
use Rattle.cfarm_explain_linked.specs.Lines.{cause_line, line_at, stack_of}
use Rattle.cfarm_explain_linked.proofs.lines.push_fault.Goals as goal

pub returns : goal.returns
returns c =
    let r = c.push_stack_line.result in
    let old = c.args.out.now.items in
    let path = c.args.path.now in
    let p = c.args.program.now in
    let f = c.args.fault.now in
    let cause = cause_line path p.globals p.functions f.at f.cause in
    let line = line_at f.at.place (slice_get p.functions f.at.function) in
    let stack = stack_of p.functions f.calls f.at.function in
    let one = c.push_cause_line.new.out.items in
    let two = c.push_line_at.new.out.items in
    let end = c.push_stack_line.new.out.items in
    appends_behind r cause (line ++ stack) old one end
    (c.in_ok-push_cause_line.ensures ∙ (λ i. old ++ cause_line path (c.as_slice.ensures i) (c.as_slice-functions.ensures i) f.at f.cause))
    (appends_behind r line stack one two end
    (c.in_ok-push_line_at.ensures ∙ ap (λ fs. one ++ line_at f.at.place (slice_get fs f.at.function)) c.as_slice-functions.ensures)
    (subst (λ fs. Appends r (stack_of fs f.calls f.at.function) two end) c.as_slice-functions.ensures
    (subst (λ cs. Appends r (stack_of c.as_slice-functions.result.now cs f.at.function) two end) c.as_slice-2.ensures c.push_stack_line.ensures)))
