-- Why `push_stack` meets its contract.
use Rattle.std.specs.Prelude.{codes}
use Rattle.std.proofs.Common.{◌++◌, length, take, ap, ◌∙◌}
use Rattle.text_keys.proofs.Appending.{appends_behind}
use Rattle.cfarm_explain_linked.specs.Lines.{calls_text, more_text, told_calls}
use Rattle.cfarm_explain_linked.proofs.lines.push_stack.Goals as goal

pub returns : goal.returns
returns c =
    let r = c.push_bytes-3.result in
    let old = c.args.out.now.items in
    let name = c.args.name.now in
    let calls = calls_text c.args.functions.now (take told_calls c.args.calls.now) in
    let more = more_text (length c.args.calls.now) in
    let ending = codes "\n" in
    let one = c.push_bytes.new.out.items in
    let two = c.push_bytes-2.new.out.items in
    let three = c.push_calls.new.out.items in
    let four = c.push_more.new.out.items in
    let end = c.push_bytes-3.new.out.items in
    appends_behind r (codes "in ") (name ++ (calls ++ (more ++ ending))) old one end (c.in_ok-push_bytes.ensures)
    (appends_behind r name (calls ++ (more ++ ending)) one two end (c.in_ok-push_bytes-2.ensures)
    (appends_behind r calls (more ++ ending) two three end (c.in_ok-push_calls.ensures ∙ ap (λ cs. two ++ calls_text c.args.functions.now cs) c.told_calls.ensures)
    (appends_behind r more ending three four end (c.in_ok-push_more.ensures)
    (c.push_bytes-3.ensures))))
