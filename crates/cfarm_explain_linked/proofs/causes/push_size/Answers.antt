-- Why `push_size` meets its contract.
use Rattle.std.specs.Prelude.{codes}
use Rattle.std.specs.Fmt.{decimal}
use Rattle.std.proofs.Common.{◌++◌, ap, subst, ◌∙◌}
use Rattle.lang_base.specs.Texts.{Appends}
use Rattle.text_keys.proofs.Appending.{appends_behind}
use Rattle.cfarm_explain_words.specs.Operators.{index_text}
use Rattle.cfarm_explain_linked.proofs.causes.push_size.Goals as goal

pub returns : goal.returns
returns c =
    let r = c.push_number-2.result in
    let old = c.args.out.now.items in
    let index = index_text c.args.index in
    let size = decimal c.args.size in
    let global = decimal c.args.global in
    let below = codes " is not below " in
    let of = codes ", the size of g" in
    let one = c.push_bytes.new.out.items in
    let two = c.push_index.new.out.items in
    let three = c.push_bytes-2.new.out.items in
    let four = c.push_number.new.out.items in
    let five = c.push_bytes-3.new.out.items in
    let end = c.push_number-2.new.out.items in
    appends_behind r (codes "index ") (index ++ (below ++ (size ++ (of ++ global)))) old one end (c.in_ok-push_bytes.ensures)
    (appends_behind r index (below ++ (size ++ (of ++ global))) one two end (c.in_ok-push_index.ensures)
    (appends_behind r below (size ++ (of ++ global)) two three end (c.in_ok-push_bytes-2.ensures)
    (appends_behind r size (of ++ global) three four end (c.in_ok-push_number.ensures ∙ ap (λ n. three ++ decimal n) c.from.ensures)
    (appends_behind r of global four five end (c.in_ok-push_bytes-3.ensures)
    (subst (λ n. Appends r (decimal n) five end) c.from-2.ensures c.push_number-2.ensures)))))
