-- Why `push_undefined` meets its contract.
use Rattle.std.specs.Prelude.{codes}
use Rattle.std.specs.Fmt.{decimal}
use Rattle.std.proofs.Common.{◌++◌, ap, ◌∙◌}
use Rattle.text_keys.proofs.Appending.{appends_behind}
use Rattle.cfarm_explain_linked.proofs.causes.push_undefined.Goals as goal

pub returns : goal.returns
returns c =
    let r = c.push_bytes-2.result in
    let old = c.args.out.now.items in
    let number = decimal c.args.register in
    let ending = codes " is used and holds no word" in
    let one = c.push_bytes.new.out.items in
    let two = c.push_number.new.out.items in
    let end = c.push_bytes-2.new.out.items in
    appends_behind r (codes "r") (number ++ ending) old one end (c.in_ok-push_bytes.ensures)
    (appends_behind r number ending one two end (c.in_ok-push_number.ensures ∙ ap (λ n. one ++ decimal n) c.from.ensures)
    (c.push_bytes-2.ensures))
