use Rattle.std.proofs.Common.{◌≡◌, ◌*◌, ◌+◌, ◌-◌}
use Rattle.c_syntax.specs.Views.{expression_tree}
use Rattle.c_reader_expression_laws.specs.Reading.{chain, expression_at}
use Rattle.c_reader_expressions.proofs.reading.+expressions.Given as goal

abbrev pub decreases-read_at : goal.decreases-read_at
decreases-read_at l = 4 * l.fuel

abbrev pub decreases-operand : goal.decreases-operand
decreases-operand l = 4 * l.below + 3

abbrev pub decreases-variable : goal.decreases-variable
decreases-variable l = 4 * l.below + 2

abbrev pub decreases-indexed : goal.decreases-indexed
decreases-indexed l = 4 * l.below + 1

abbrev pub decreases-parenthesized : goal.decreases-parenthesized
decreases-parenthesized l = 4 * l.below + 2

abbrev pub decreases-cast : goal.decreases-cast
decreases-cast l = 4 * l.below + 1

abbrev pub decreases-enclosed : goal.decreases-enclosed
decreases-enclosed l = 4 * l.below + 1

abbrev pub decreases-perhaps_signed : goal.decreases-perhaps_signed
decreases-perhaps_signed l = 4 * l.below + 1

abbrev pub decreases-chain : goal.decreases-chain
decreases-chain l = 4 * l.below + 2

abbrev pub decreases-operated : goal.decreases-operated
decreases-operated l = 4 * l.below + 1

abbrev pub decreases-chosen : goal.decreases-chosen
decreases-chosen l = 4 * l.below + 1

-- what is left to be read behind the left operand is what was to be read
abbrev pub invariant-chain-loop : goal.invariant-chain-loop
invariant-chain-loop l =
    chain (expression_at l.below) l.below l.level l.below (expression_tree l.fn.left.expression) l.fn.tokens
    ≡ chain (expression_at l.below) l.below l.level (l.below - l.counter) (expression_tree l.left.expression) l.rest
