use Rattle.std.proofs.Common.{◌≡◌, false, take}
use Rattle.std.specs.List.{list_any}
use Rattle.native_text_doors.specs.Doors.{is_main}
use Rattle.native_text_doors.proofs.doors.has_main.Given as goal

abbrev pub invariant-loop-named : goal.invariant-loop-named
invariant-loop-named l = list_any is_main (take l.named-index l.functions) ≡ false
