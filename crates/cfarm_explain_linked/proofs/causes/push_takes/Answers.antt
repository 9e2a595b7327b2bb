-- Why `push_takes` meets its contract.
use Rattle.std.specs.Prelude.{codes}
use Rattle.std.specs.Fmt.{decimal}
use Rattle.std.proofs.Common.{◌++◌, ap, ◌∙◌}
use Rattle.text_keys.proofs.Appending.{appends_behind}
use Rattle.cfarm_explain_linked.proofs.causes.push_takes.Goals as goal

pub returns : goal.returns
returns c =
    let r = c.push_number-3.result in
    let old = c.args.out.now.items in
    let function = decimal c.args.function in
    let taken = decimal c.args.taken in
    let count = decimal c.args.count in
    let takes = codes " takes " in
    let not = codes " arguments, not " in
    let one = c.push_bytes.new.out.items in
    let two = c.push_number.new.out.items in
    let three = c.push_bytes-2.new.out.items in
    let four = c.push_number-2.new.out.items in
    let five = c.push_bytes-3.new.out.items in
    let end = c.push_number-3.new.out.items in
    appends_behind r (codes "f") (function ++ (takes ++ (taken ++ (not ++ count)))) old one end (c.in_ok-push_bytes.ensures)
    (appends_behind r function (takes ++ (taken ++ (not ++ count))) one two end (c.in_ok-push_number.ensures ∙ ap (λ n. one ++ decimal n) c.from.ensures)
    (appends_behind r takes (taken ++ (not ++ count)) two three end (c.in_ok-push_bytes-2.ensures)
    (appends_behind r taken (not ++ count) three four end (c.in_ok-push_number-2.ensures)
    (appends_behind r not count four five end (c.in_ok-push_bytes-3.ensures)
    (c.push_number-3.ensures)))))
