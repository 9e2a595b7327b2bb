-- Why `push_both` meets its contract.
use Rattle.std.specs.Prelude.{codes, ◌-◌, ◌^◌}
use Rattle.std.specs.Fmt.{decimal}
use Rattle.std.proofs.Common.{◌++◌, ap, ◌∙◌}
use Rattle.text_keys.proofs.Appending.{appends_behind, function_written}
use Rattle.cfarm_explain_words.proofs.numbers.push_both.Goals as goal

pub returns : goal.returns
returns c =
    let r = c.push_bytes-3.result in
    let below = decimal (2 ^ 32 - c.args.word) in
    let word = decimal c.args.word in
    let one = c.push_bytes.new.out.items in
    let end = c.push_bytes-3.new.out.items in
    appends_behind r (codes "-") (below ++ (codes " (unsigned " ++ (word ++ codes ")"))) c.args.out.now.items one end c.in_ok-push_bytes.ensures
    (function_written r below (codes " (unsigned ") word (codes ")") one c.push_below.new.out.items c.push_bytes-2.new.out.items c.push_number.new.out.items end
    c.in_ok-push_below.ensures c.in_ok-push_bytes-2.ensures (c.in_ok-push_number.ensures ∙ ap (λ n. c.push_bytes-2.new.out.items ++ decimal n) c.from.ensures) c.push_bytes-3.ensures)
