-- Why `push_no_global` meets its contract.
use Rattle.std.specs.Prelude.{codes}
use Rattle.std.specs.Fmt.{decimal}
use Rattle.std.proofs.Common.{subst}
use Rattle.lang_base.specs.Texts.{Appends}
use Rattle.text_keys.proofs.Appending.{appends_behind}
use Rattle.cfarm_explain_linked.proofs.causes.push_no_global.Goals as goal

pub returns : goal.returns
returns c =
    let r = c.push_number.result in
    let one = c.push_bytes.new.out.items in
    let end = c.push_number.new.out.items in
    appends_behind r (codes "there is no g") (decimal c.args.global) c.args.out.now.items one end (c.in_ok-push_bytes.ensures)
    (subst (λ n. Appends r (decimal n) one end) c.from.ensures c.push_number.ensures)
