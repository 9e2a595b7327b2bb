use Rattle.std.proofs.Common.{◌≡◌, ◌++◌, take}
use Rattle.std.specs.List.{flat_map}
use Rattle.cminor_syntax.specs.Views.{statement_tree}
use Rattle.cminor_form.specs.Spelling.{statement_text}
use Rattle.cminor_codec.proofs.writing.+writing.Given as goal

abbrev pub invariant-push_each-loop-statement : goal.invariant-push_each-loop-statement
invariant-push_each-loop-statement l = l.out.items ≡ l.fn.out.items ++ flat_map (λ s. statement_text (statement_tree s)) (take l.statement-index l.statements)
