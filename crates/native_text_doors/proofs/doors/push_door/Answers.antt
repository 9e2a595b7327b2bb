-- Why `push_door` meets its contract.
use Rattle.std.proofs.Common.{◌++◌, ap, ◌∙◌}
use Rattle.text_keys.proofs.Appending.{function_written}
use Rattle.native_text_doors.specs.Doors.{seen_text, called_text}
use Rattle.native_text_doors.specs.Fixed.{kept_text, back_text}
use Rattle.native_text_doors.proofs.doors.push_door.Goals as goal

pub returns : goal.returns
returns c =
    let f = c.args.named.now in
    let old = c.args.out.now.items in
    let second = c.push_kept.new.out.items in
    function_written c.push_back.result (seen_text (c.args.prefix.now ++ f.name)) kept_text (called_text f.name f.function.parameters) back_text
    old c.push_seen.new.out.items second c.push_called.new.out.items c.push_back.new.out.items
    (c.in_ok-push_seen.ensures ∙ ap (λ n. old ++ seen_text (c.args.prefix.now ++ n)) c.as_slice-name.ensures)
    c.in_ok-push_kept.ensures
    (c.in_ok-push_called.ensures ∙ ap (λ n. second ++ called_text n f.function.parameters) c.as_slice-name.ensures)
    c.push_back.ensures
