use Rattle.std.proofs.Common.{◌≡◌, ◌++◌, ◌-◌, ◌+◌, drop, max}
use Rattle.native_lowering_definition.specs.Frames.{outs_of}
use Rattle.native_lowering_frames.proofs.frame.find_outs.Given as goal

abbrev pub invariant-loop-instruction : goal.invariant-loop-instruction
invariant-loop-instruction l = max l.outs (outs_of (drop l.instruction-index l.code)) ≡ outs_of l.code
