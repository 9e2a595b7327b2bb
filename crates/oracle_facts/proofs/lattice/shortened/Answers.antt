-- Why `shortened` meets what its body asks for.
use Rattle.std.proofs.Common.{arith}
use Rattle.std.proofs.lemmas.List.{length-take}
use Rattle.oracle_facts.proofs.lattice.shortened.Goals as goal

pub slice_bounds-result-length : goal.slice_bounds-result-length
slice_bounds-result-length g c = omega (arith, length-take 31 c.args.facts.now)
