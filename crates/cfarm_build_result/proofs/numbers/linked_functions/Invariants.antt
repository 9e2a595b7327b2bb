use Rattle.std.proofs.Common.{◌≡◌, ◌≤◌, take}
use Rattle.std.specs.Prelude.{count_by, is_some}
use Rattle.farm_nodes_link.specs.Learned.{learned_by}
use Rattle.cfarm_build_result.proofs.numbers.linked_functions.Given as goal

-- of the first functions so many are linked
abbrev pub invariant-loop-function : goal.invariant-loop-function
invariant-loop-function g l = (l.linked ≡ count_by is_some (learned_by (take l.function l.seats))) × (l.linked ≤ l.function)
