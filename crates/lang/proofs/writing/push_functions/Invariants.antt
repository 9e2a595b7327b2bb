use Rattle.std.proofs.Common.{◌≡◌, ◌++◌, take}
use Rattle.std.specs.List.{flat_map}
use Rattle.lang.specs.Form.{named_text}
use Rattle.lang.proofs.writing.push_functions.Given as goal

abbrev pub invariant-loop-function : goal.invariant-loop-function
invariant-loop-function g l = l.out.items ≡ l.fn.out.items ++ flat_map (named_text g.L.Language.spelling) (take l.function-index l.functions)
