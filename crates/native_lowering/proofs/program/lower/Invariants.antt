use Rattle.std.proofs.Common.{◌≡◌, take, map}
use Rattle.native_lowering.specs.Named.{named_of}
use Rattle.native_lowering.proofs.program.lower.Given as goal

abbrev pub invariant-loop-named : goal.invariant-loop-named
invariant-loop-named l = l.functions.items ≡ map (named_of l.program) (take l.named-index l.all)
