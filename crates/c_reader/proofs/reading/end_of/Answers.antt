-- Why `end_of` meets its contract.
use Rattle.std.proofs.Common.{◌≡◌, ◌-◌, length, Some, sym, ap, ◌∙◌, rules}
use Rattle.std.specs.Prelude.{slice_get}
use Rattle.c_reader.proofs.Ends.{end_at, last_end}
use Rattle.c_reader.proofs.reading.end_of.Goals as goal

pub returns-in-Some : goal.returns-in-Some
returns-in-Some c =
    let last : slice_get c.args.tokens.now (length c.args.tokens.now - 1) ≡ Some c.in-Some.token.now = search rules in
    sym (ap end_at last) ∙ last_end c.args.tokens.now
