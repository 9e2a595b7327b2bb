-- Why `push_routines` meets its contract.
use Rattle.std.proofs.Common.{◌++◌}
use Rattle.text_keys.proofs.Appending.{appends_behind, function_written}
use Rattle.native_text_doors.specs.Fixed.{enter_text, put_text, flush_text, ends_text, data_text}
use Rattle.native_text.proofs.whole.push_routines.Goals as goal

pub returns : goal.returns
returns c =
    let r = c.push_data.result in
    let new = c.push_data.new.out.items in
    let flushed = c.push_flush.new.out.items in
    let behind = appends_behind r ends_text data_text flushed c.push_ends.new.out.items new c.in_ok-push_ends.ensures c.push_data.ensures in
    function_written r enter_text put_text flush_text (ends_text ++ data_text) c.args.out.now.items c.push_enter.new.out.items c.push_put.new.out.items flushed new
    c.in_ok-push_enter.ensures c.in_ok-push_put.ensures c.in_ok-push_flush.ensures behind
