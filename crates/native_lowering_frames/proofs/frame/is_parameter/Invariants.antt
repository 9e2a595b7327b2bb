use Rattle.std.proofs.Common.{◌≡◌, false, take}
use Rattle.std.specs.List.{list_any}
use Rattle.native_lowering_definition.specs.Frames.{is_register}
use Rattle.native_lowering_frames.proofs.frame.is_parameter.Given as goal

abbrev pub invariant-loop-location : goal.invariant-loop-location
invariant-loop-location l = list_any (is_register l.r) (take l.location-index l.parameters) ≡ false
