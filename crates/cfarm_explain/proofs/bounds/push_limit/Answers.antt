-- Why `push_limit` meets its contract.
use Rattle.std.specs.Prelude.{codes}
use Rattle.std.proofs.Common.{◌++◌}
use Rattle.text_keys.proofs.Appending.{appends_behind}
use Rattle.cfarm_explain.specs.Bounds.{grouped, groups}
use Rattle.cfarm_explain.proofs.bounds.push_limit.Goals as goal

pub returns : goal.returns
returns c =
    let r = c.push_bytes-2.result in
    let number = grouped groups c.args.limit in
    let behind = codes " instructions; --limit N allows more, --limit none all\n" in
    let one = c.push_bytes.new.out.items in
    let end = c.push_bytes-2.new.out.items in
    appends_behind r (codes "stopped after ") (number ++ behind) c.args.out.now.items one end c.in_ok-push_bytes.ensures
    (appends_behind r number behind one c.push_grouped.new.out.items end c.in_ok-push_grouped.ensures c.push_bytes-2.ensures)
