use Rattle.std.proofs.Common.{◌-◌, ◌≤◌, length, drop}
use Rattle.c_lexer.specs.Texts.{ReadsTo}
use Rattle.c_lexer.proofs.lexer.read.Given as goal

abbrev pub invariant-loop-at : goal.invariant-loop-at
invariant-loop-at l = record { in_range : l.at ≤ length l.text; reads : ReadsTo l.text l.tokens.items l.at (drop l.at l.text) }

abbrev pub decreases-loop-at : goal.decreases-loop-at
decreases-loop-at l = length l.text - l.at
