-- Why `push_cause_line` meets its contract.
use Rattle.std.specs.Prelude.{codes}
use Rattle.std.proofs.Common.{◌++◌}
use Rattle.text_keys.proofs.Appending.{appends_behind}
use Rattle.std.specs.Prelude.{slice_get}
use Rattle.cfarm_explain_linked.specs.Causes.{cause_text}
use Rattle.cfarm_explain_linked.specs.Lines.{named_place}
use Rattle.cfarm_explain_linked.proofs.lines.push_cause_line.Goals as goal

pub returns : goal.returns
returns c =
    let r = c.push_bytes-3.result in
    let old = c.args.out.now.items in
    let path = c.args.path.now in
    let place = named_place c.args.at.place (slice_get c.args.functions.now c.args.at.function) in
    let error = codes ": error: " in
    let cause = cause_text c.args.globals.now c.args.functions.now c.args.cause in
    let ending = codes "\n" in
    let one = c.push_bytes.new.out.items in
    let two = c.push_named_place.new.out.items in
    let three = c.push_bytes-2.new.out.items in
    let four = c.push_cause.new.out.items in
    let end = c.push_bytes-3.new.out.items in
    appends_behind r path (place ++ (error ++ (cause ++ ending))) old one end (c.in_ok-push_bytes.ensures)
    (appends_behind r place (error ++ (cause ++ ending)) one two end (c.in_ok-push_named_place.ensures)
    (appends_behind r error (cause ++ ending) two three end (c.in_ok-push_bytes-2.ensures)
    (appends_behind r cause ending three four end (c.in_ok-push_cause.ensures)
    (c.push_bytes-3.ensures))))
