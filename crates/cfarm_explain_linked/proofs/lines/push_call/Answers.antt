-- Why `push_call` meets its contract.
use Rattle.std.specs.Prelude.{codes}
use Rattle.std.proofs.Common.{◌++◌, subst}
use Rattle.lang_base.specs.Texts.{Appends}
use Rattle.text_keys.proofs.Appending.{appends_behind}
use Rattle.cfarm_explain_linked.specs.Lines.{function_name, line_number}
use Rattle.cfarm_explain_linked.proofs.lines.push_call.Goals as goal

pub returns : goal.returns
returns c =
    let r = c.push_bytes-3.result in
    let old = c.args.out.now.items in
    let number = line_number c.args.call.now.place in
    let name = function_name c.args.functions.now c.args.call.now.function in
    let in_name = codes ", in " in
    let one = c.push_bytes.new.out.items in
    let two = c.push_line_number.new.out.items in
    let three = c.push_bytes-2.new.out.items in
    let end = c.push_bytes-3.new.out.items in
    appends_behind r (codes ", called at ") (number ++ (in_name ++ name)) old one end (c.in_ok-push_bytes.ensures)
    (appends_behind r number (in_name ++ name) one two end (c.in_ok-push_line_number.ensures)
    (appends_behind r in_name name two three end (c.in_ok-push_bytes-2.ensures)
    (subst (λ l. Appends r l three end) c.function_name.ensures c.push_bytes-3.ensures)))
