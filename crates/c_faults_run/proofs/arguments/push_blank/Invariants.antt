use Rattle.std.proofs.Common.{◌≡◌, ◌+◌, ◌-◌, ◌≤◌, ◌++◌, length, None}
use Rattle.std.specs.Prelude.{replicate, vec_capacity}
use Rattle.c_faults_run.proofs.arguments.push_blank.Given as goal

-- so many stand behind the others, and there is room for the rest
abbrev pub invariant-loop : goal.invariant-loop
invariant-loop l = record {
  items : l.locals.items ≡ l.fn.locals.items ++ replicate l.counter None;
  room : length l.locals.items + (l.count - l.counter) ≤ vec_capacity l.locals;
}
