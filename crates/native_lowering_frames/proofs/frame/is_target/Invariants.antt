use Rattle.std.proofs.Common.{◌≡◌, false, take}
use Rattle.std.specs.List.{list_any}
use Rattle.native_lowering_definition.specs.Frames.{is_there, target_of}
use Rattle.native_lowering_frames.proofs.frame.is_target.Given as goal

abbrev pub invariant-loop-instruction : goal.invariant-loop-instruction
invariant-loop-instruction l = list_any (λ i. is_there l.r (target_of i)) (take l.instruction-index l.code) ≡ false
