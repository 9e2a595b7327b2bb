use Rattle.std.proofs.Common.{◌≡◌, ◌++◌, take}
use Rattle.std.specs.List.{flat_map}
use Rattle.text_cminor.specs.Shown.{shown_one}
use Rattle.text_cminor.proofs.statement.+statement.Given as goal

abbrev pub invariant-push_each-loop-statement : goal.invariant-push_each-loop-statement
invariant-push_each-loop-statement l = l.out.items ≡ l.fn.out.items ++ flat_map shown_one (take l.statement-index l.statements)
