-- Why `push_three` meets its contract.
use Rattle.std.specs.Fmt.{decimal}
use Rattle.std.proofs.Common.{subst, ◌∙◌, ap, ◌++◌}
use Rattle.text_keys.proofs.Appending.{appends_behind}
use Rattle.cfarm_explain.specs.Bounds.{zeros_before}
use Rattle.cfarm_explain.proofs.bounds.push_three.Goals as goal

pub returns : goal.returns
returns c =
    let n = c.args.number in
    appends_behind c.push_number.result (zeros_before n) (decimal n) c.args.out.now.items c.push_bytes.new.out.items c.push_number.new.out.items
    (c.in_ok-push_bytes.ensures ∙ ap (λ l. c.args.out.now.items ++ l) c.zeros_before.ensures) c.push_number.ensures
