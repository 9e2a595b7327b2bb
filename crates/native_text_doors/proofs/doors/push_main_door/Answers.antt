-- Why `push_main_door` meets its contract.
use Rattle.std.proofs.Common.{◌++◌, ap, ◌∙◌}
use Rattle.std.specs.List.{list_any}
use Rattle.text_keys.proofs.Appending.{appends_behind, function_written}
use Rattle.native_text_doors.specs.Doors.{enters_text, begins_text, is_main}
use Rattle.native_text_doors.specs.Fixed.{kept_text, back_text, main_text, result_text}
use Rattle.native_text_doors.proofs.doors.push_main_door.Goals as goal

pub returns : goal.returns
returns c =
    let begins = begins_text (list_any is_main c.args.functions.now) in
    let entered = c.push_enters.new.out.items in
    let r = c.push_back.result in
    let new = c.push_back.new.out.items in
    let behind =
    appends_behind r begins (result_text ++ back_text) entered c.push_begins.new.out.items new
    (c.in_ok-push_begins.ensures ∙ ap (λ m. entered ++ begins_text m) c.has_main.ensures)
    (appends_behind r result_text back_text c.push_begins.new.out.items c.push_result.new.out.items new c.in_ok-push_result.ensures c.push_back.ensures) in
    function_written r main_text kept_text enters_text (begins ++ (result_text ++ back_text)) c.args.out.now.items c.push_main.new.out.items c.push_kept.new.out.items entered new
    c.in_ok-push_main.ensures c.in_ok-push_kept.ensures c.in_ok-push_enters.ensures behind
