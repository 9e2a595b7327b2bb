use Rattle.std.proofs.Common.{◌≡◌, ◌++◌, map, take, Some}
use Rattle.c_faults_run.proofs.arguments.push_words.Given as goal

-- so many stand there
abbrev pub invariant-loop-word : goal.invariant-loop-word
invariant-loop-word l = l.locals.items ≡ l.fn.locals.items ++ map Some (take l.word-index l.words)
