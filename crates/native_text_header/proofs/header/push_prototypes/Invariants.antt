use Rattle.std.proofs.Common.{◌≡◌, ◌++◌, take}
use Rattle.std.specs.List.{flat_map}
use Rattle.native_text_header.specs.Header.{prototype_text}
use Rattle.native_text_header.proofs.header.push_prototypes.Given as goal

abbrev pub invariant-loop-named : goal.invariant-loop-named
invariant-loop-named l = l.out.items ≡ l.fn.out.items ++ flat_map (prototype_text l.prefix) (take l.named-index l.functions)
