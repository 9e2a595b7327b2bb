use Rattle.std.proofs.Common.{◌≡◌, ◌++◌, take}
use Rattle.std.specs.List.{flat_map}
use Rattle.native_text_header.specs.Header.{next_parameter}
use Rattle.native_text_header.proofs.header.push_next.Given as goal

abbrev pub invariant-loop-parameter : goal.invariant-loop-parameter
invariant-loop-parameter l = l.out.items ≡ l.fn.out.items ++ flat_map next_parameter (take l.parameter-index l.parameters)
