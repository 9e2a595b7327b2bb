use Rattle.std.proofs.Common.{◌≡◌, ℕ, List, take}
use Rattle.durable_model_writes.specs.declared.call.Call.{Call}
use Rattle.durable_model_writes.specs.History.{seen_after, Redone}
use Rattle.durable_model_writes.proofs.replaying.redo_all.Given as goal

-- the calls so far were done again
abbrev pub invariant-loop-call : goal.invariant-loop-call
invariant-loop-call l = (first : List ℕ) (h : List (Call × List ℕ)) → l.fn.seen.items ≡ seen_after h first
    → Redone first (take l.call-index l.calls) l.written h l.rest l.seen.items
