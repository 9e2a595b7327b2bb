-- Why `bytes_between` meets its contract.
use Rattle.std.proofs.Common.{◌-◌, refl}
use Rattle.c_hints_words.proofs.Standings.{taken}
use Rattle.c_hints_words.proofs.words.bytes_between.Goals as goal

pub returns-then-start-end : goal.returns-then-start-end
returns-then-start-end c = taken c.args.text.now c.args.start (c.min-end.result - c.args.start) _ refl
