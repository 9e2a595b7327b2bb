use Rattle.std.proofs.Common.{◌≡◌, ◌++◌, take}
use Rattle.std.specs.List.{flat_map}
use Rattle.cfarm_explain_linked.specs.Lines.{call_text}
use Rattle.cfarm_explain_linked.proofs.lines.push_calls.Given as goal

-- so many calls are written
abbrev pub invariant-loop-call : goal.invariant-loop-call
invariant-loop-call l = l.out.items ≡ l.fn.out.items ++ flat_map (call_text l.functions) (take l.call-index l.calls)
