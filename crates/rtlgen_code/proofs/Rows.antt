-- Sequences of statements, and each of their statements.
use Rattle.std.proofs.Common.{ℕ, ◌+◌, ◌<◌, List, [], ◌∷◌, arith}
use Rattle.std.specs.Prelude.{All}
use Rattle.std.specs.List.{AllByRecursion}
use Rattle.std.proofs.lemmas.List.Elements.{All-from_recursion}
use Rattle.cminor_syntax.specs.declared.statement.Statement.{Statement}
use Rattle.cminor_syntax.specs.Views.{statement_tree, statements_tree}
use Rattle.rtlgen_definition.specs.Gen.{statement_needs, statements_need}

by_recursion : (temporary : ℕ) (ss : List Statement) → temporary + statements_need (statements_tree ss) < 65536 → AllByRecursion (λ s. temporary + statement_needs (statement_tree s) < 65536) ss
by_recursion temporary [] few = tt
by_recursion temporary (s ∷ ss) few = (omega (arith, few), by_recursion temporary ss (omega (arith, few)))

pub each_few : (temporary : ℕ) (ss : List Statement) → temporary + statements_need (statements_tree ss) < 65536 → All (λ s. temporary + statement_needs (statement_tree s) < 65536) ss
each_few temporary ss few = All-from_recursion (λ s. temporary + statement_needs (statement_tree s) < 65536) ss (by_recursion temporary ss few)

needs_by_recursion : (ss : List Statement) → statements_need (statements_tree ss) < 65536 → AllByRecursion (λ s. statement_needs (statement_tree s) < 65536) ss
needs_by_recursion [] few = tt
needs_by_recursion (s ∷ ss) few = (omega (arith, few), needs_by_recursion ss (omega (arith, few)))

pub each_needs_few : (ss : List Statement) → statements_need (statements_tree ss) < 65536 → All (λ s. statement_needs (statement_tree s) < 65536) ss
each_needs_few ss few = All-from_recursion (λ s. statement_needs (statement_tree s) < 65536) ss (needs_by_recursion ss few)
