use Rattle.std.proofs.Common.{◌≡◌, take, map}
use Rattle.cminor_syntax.specs.Views.{statement_tree}
use Rattle.cminor_language.proofs.copying.+copying.Given as goal

abbrev pub invariant-copy_each-loop-statement : goal.invariant-copy_each-loop-statement
invariant-copy_each-loop-statement l = map statement_tree l.copied.items ≡ map statement_tree (take l.statement-index l.statements)
