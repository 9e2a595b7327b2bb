use Rattle.std.proofs.Common.{◌≡◌, ◌++◌, take}
use Rattle.native_text.specs.Whole.{functions_text}
use Rattle.native_text.proofs.whole.push_functions.Given as goal

abbrev pub invariant-loop-number : goal.invariant-loop-number
invariant-loop-number l = l.out.items ≡ l.fn.out.items ++ functions_text l.functions (take l.number l.functions)
