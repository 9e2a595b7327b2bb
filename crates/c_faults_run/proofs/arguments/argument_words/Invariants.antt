use Rattle.std.proofs.Common.{◌≡◌, []}
use Rattle.c_meaning_machine.specs.Scopes.{state_of, variables_of}
use Rattle.c_meaning_machine.proofs.Placing.{joined, rest_words}
use Rattle.c_faults_step.proofs.Listed.{rest_gap}
use Rattle.c_faults_run.proofs.arguments.argument_words.Given as goal

-- the words so far, and the others are to come; no gap so far
abbrev pub invariant-loop-argument : goal.invariant-loop-argument
invariant-loop-argument l = record {
  words : rest_words l.arguments 0 (state_of l.scope []) ≡ joined l.words.items (rest_words l.arguments l.argument-index (state_of l.scope []));
  gap : rest_gap l.arguments 0 l.places (variables_of l.scope) ≡ rest_gap l.arguments l.argument-index l.rest (variables_of l.scope);
}
