use Rattle.std.proofs.Common.{◌≡◌, ◌++◌, take}
use Rattle.std.specs.List.{flat_map}
use Rattle.native_text_doors.specs.Doors.{door_text}
use Rattle.native_text.proofs.whole.push_each_door.Given as goal

abbrev pub invariant-loop-named : goal.invariant-loop-named
invariant-loop-named l = l.out.items ≡ l.fn.out.items ++ flat_map (door_text l.prefix) (take l.named-index l.functions)
