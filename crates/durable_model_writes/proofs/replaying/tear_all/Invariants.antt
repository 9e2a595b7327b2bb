use Rattle.std.proofs.Common.{◌≡◌, ℕ, List, take}
use Rattle.durable_model_writes.specs.declared.call.Call.{Call}
use Rattle.durable_model_writes.specs.History.{seen_after, MayLeave, RedoneTo}
use Rattle.durable_model_writes.proofs.replaying.tear_all.Given as goal

-- the calls so far were torn
abbrev pub invariant-loop-call : goal.invariant-loop-call
invariant-loop-call l = (first : List ℕ) (h : List (Call × List ℕ)) → l.fn.seen.items ≡ seen_after h first
    → MayLeave h first l.fn.image.items
    → RedoneTo first (take l.call-index l.calls) l.written h l.rest l.seen.items l.image.items
