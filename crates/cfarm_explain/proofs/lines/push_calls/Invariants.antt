use Rattle.std.proofs.Common.{◌≡◌, ◌++◌, take, map}
use Rattle.std.specs.List.{flat_map}
use Rattle.c_program.specs.Views.{function_tree}
use Rattle.cfarm_explain.specs.Lines.{call_text}
use Rattle.cfarm_explain.proofs.lines.push_calls.Given as goal

-- so many calls are written
abbrev pub invariant-loop-call : goal.invariant-loop-call
invariant-loop-call l =
    l.out.items ≡ l.fn.out.items ++ flat_map (call_text (map function_tree l.functions) l.text) (take l.call-index l.calls)
