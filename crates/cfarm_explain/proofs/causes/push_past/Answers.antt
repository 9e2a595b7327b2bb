-- Why `push_past` meets its contract.
use Rattle.std.specs.Prelude.{codes}
use Rattle.std.specs.Fmt.{decimal}
use Rattle.std.proofs.Common.{◌++◌, subst}
use Rattle.lang_base.specs.Texts.{Appends}
use Rattle.text_keys.proofs.Appending.{appends_behind, function_written}
use Rattle.cfarm_explain.specs.Causes.{name_at}
use Rattle.cfarm_explain_words.specs.Operators.{index_text}
use Rattle.cfarm_explain.proofs.causes.push_past.Goals as goal

pub returns : goal.returns
returns c =
    let r = c.push_bytes-4.result in
    let index = index_text c.args.index in
    let name = name_at c.args.text.now c.args.at in
    let size = codes ", the size of " in
    let one = c.push_bytes.new.out.items in
    let two = c.push_index.new.out.items in
    let three = c.push_bytes-2.new.out.items in
    let four = c.push_number.new.out.items in
    let five = c.push_bytes-3.new.out.items in
    let end = c.push_bytes-4.new.out.items in
    appends_behind r (codes "index ") (index ++ (codes " is not below " ++ (decimal c.args.size ++ (size ++ name)))) c.args.out.now.items one end c.in_ok-push_bytes.ensures
    (function_written r index (codes " is not below ") (decimal c.args.size) (size ++ name) one two three four end
    c.in_ok-push_index.ensures c.in_ok-push_bytes-2.ensures c.in_ok-push_number.ensures
    (appends_behind r size name four five end c.in_ok-push_bytes-3.ensures (subst (λ l. Appends r l five end) c.name_at.ensures c.push_bytes-4.ensures)))
