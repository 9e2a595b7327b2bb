use Rattle.std.proofs.Common.{◌≡◌, ◌++◌, take}
use Rattle.std.specs.Prelude.{map}
use Rattle.alloc_check_rules.specs.Equations.{back_equation}
use Rattle.alloc_check_rules.specs.Pairs.{equations_of}
use Rattle.alloc_check_fill.proofs.uses.push_each.Given as goal

abbrev pub invariant-loop-k : goal.invariant-loop-k
invariant-loop-k l =
    l.out.items ≡ l.fn.out.items ++ map (back_equation l.block.before) (take l.k (equations_of l.names l.locations))
