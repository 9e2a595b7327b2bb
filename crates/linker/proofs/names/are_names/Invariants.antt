use Rattle.std.proofs.Common.{◌≡◌, length, take}
use Rattle.linker.specs.Chains.{names_beside, names_of}
use Rattle.linker.proofs.names.are_names.Given as goal

-- as many names, and the first ones are the same
abbrev pub invariant-loop-number : goal.invariant-loop-number
invariant-loop-number g l = (length l.functions ≡ length l.named) × (names_beside (take l.number l.named) ≡ names_of (take l.number l.functions))
