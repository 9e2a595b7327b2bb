-- Why `push_native` meets its contract.
use Rattle.std.proofs.Common.{◌++◌}
use Rattle.text_keys.specs.Numbered.{numbered_text}
use Rattle.text_keys.proofs.Appending.{appends_behind, function_written}
use Rattle.native_text_doors.specs.Fixed.{note_text}
use Rattle.native_text.specs.Doorways.{prefix_in}
use Rattle.native_text.specs.Whole.{doors_text, functions_text, routines_text, variable_text}
use Rattle.native_text.proofs.whole.push_native.Goals as goal

pub returns : goal.returns
returns c =
    let p = c.args.program.now in
    let r = c.push_note.result in
    let new = c.push_note.new.out.items in
    let ended = c.push_routines.new.out.items in
    let globals = numbered_text variable_text 0 p.globals in
    let behind = appends_behind r globals note_text ended c.push_numbered.new.out.items new (rw c.as_slice.ensures at c.in_ok-push_numbered.ensures) c.push_note.ensures in
    function_written r (doors_text p.functions (prefix_in c.args.doorways.now)) (functions_text p.functions p.functions) routines_text (globals ++ note_text)
    c.args.out.now.items c.push_doors.new.out.items c.push_functions.new.out.items ended new
    (rw c.as_slice-functions.ensures at c.in_ok-push_doors.ensures) (rw c.as_slice-functions.ensures at c.in_ok-push_functions.ensures) c.in_ok-push_routines.ensures behind
