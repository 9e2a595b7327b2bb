use Rattle.std.proofs.Common.{◌≡◌, ◌++◌, map, length}
use Rattle.c_checker_declarations.proofs.signatures.prototype_signature.Given as goal

-- the types so far, and those that are left, are those of the whole
abbrev pub invariant-loop-rest : goal.invariant-loop-rest
invariant-loop-rest l = map (λ p. p.kind) l.parameters ≡ l.kinds.items ++ map (λ p. p.kind) l.rest

abbrev pub decreases-loop-rest : goal.decreases-loop-rest
decreases-loop-rest l = length l.rest
