use Rattle.std.proofs.Common.{◌≡◌, []}
use Rattle.c_meaning_machine.specs.Scopes.{state_of}
use Rattle.c_meaning_machine.proofs.Placing.{joined, rest_words}
use Rattle.c_meaning.proofs.calling.evaluated.Given as goal

-- the words so far, and the others are to come
abbrev pub invariant-loop-argument : goal.invariant-loop-argument
invariant-loop-argument l =
    rest_words l.arguments 0 (state_of l.scope []) ≡ joined l.words.items (rest_words l.arguments l.argument-index (state_of l.scope []))
