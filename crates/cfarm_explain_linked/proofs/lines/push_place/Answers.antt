-- Why `push_place` meets its contract.
use Rattle.std.specs.Prelude.{codes}
use Rattle.std.proofs.Common.{◌++◌}
use Rattle.text_keys.proofs.Appending.{appends_behind}
use Rattle.cfarm_explain_linked.specs.Lines.{line_number}
use Rattle.cfarm_explain_linked.proofs.lines.push_place.Goals as goal

pub returns : goal.returns
returns c =
    let r = c.push_line_number.result in
    let old = c.args.out.now.items in
    let name = c.args.name.now in
    let number = line_number c.args.place in
    let colon = codes ":" in
    let one = c.push_bytes.new.out.items in
    let two = c.push_bytes-2.new.out.items in
    let three = c.push_bytes-3.new.out.items in
    let end = c.push_line_number.new.out.items in
    appends_behind r colon (name ++ (colon ++ number)) old one end (c.in_ok-push_bytes.ensures)
    (appends_behind r name (colon ++ number) one two end (c.in_ok-push_bytes-2.ensures)
    (appends_behind r colon number two three end (c.in_ok-push_bytes-3.ensures)
    (c.push_line_number.ensures)))
