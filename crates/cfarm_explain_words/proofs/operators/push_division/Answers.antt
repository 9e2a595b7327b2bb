-- Why `push_division` meets its contract.
use Rattle.std.specs.Prelude.{codes}
use Rattle.std.proofs.Common.{◌++◌, ap, ◌∙◌}
use Rattle.text_keys.proofs.Appending.{appends_behind}
use Rattle.cfarm_explain_words.specs.Operators.{first_text, sign_of}
use Rattle.cfarm_explain_words.proofs.operators.push_division.Goals as goal

pub returns : goal.returns
returns c =
    let first = first_text c.args.op c.args.word in
    let sign = sign_of c.args.op in
    let last = codes "0 divides by zero" in
    let one = c.push_first.new.out.items in
    let two = c.push_bytes.new.out.items in
    let end = c.push_bytes-2.new.out.items in
    appends_behind c.push_bytes-2.result first (sign ++ last) c.args.out.now.items one end c.in_ok-push_first.ensures
    (appends_behind c.push_bytes-2.result sign last one two end (c.in_ok-push_bytes.ensures ∙ ap (λ l. one ++ l) c.sign_of.ensures) c.push_bytes-2.ensures)
