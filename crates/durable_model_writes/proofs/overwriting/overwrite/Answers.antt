-- Why `overwrite` meets its clause `ok`.
use Rattle.std.proofs.Common.{◌≡◌, ◌+◌, ◌<◌, ◌≤◌, length, rules}
use Rattle.durable_model_writes.proofs.Filled.{overwritten_filled}
use Rattle.durable_model_writes.proofs.overwriting.overwrite.Goals as goal

pub returns-clause-ok : goal.returns-clause-ok
returns-clause-ok c =
    let some : 0 < length c.args.bytes.now = search rules in
    let ends : c.in-Some.end ≡ c.args.at + length c.args.bytes.now = search rules in
    let short : length c.args.file.now.items ≤ c.in-Some.end = search rules in
    overwritten_filled c.args.file.now.items c.lengthen.new.file.items c.put-2.new.file.items c.args.at c.in-Some.end c.args.bytes.now
    some ends short c.in_ok-lengthen.ensures.ok c.put-2.ensures
