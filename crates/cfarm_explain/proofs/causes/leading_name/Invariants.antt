use Rattle.std.proofs.Common.{◌≡◌, ◌++◌, take, drop}
use Rattle.cfarm_explain.specs.Causes.{leading_name}
use Rattle.cfarm_explain.proofs.causes.leading_name.Given as goal

-- so many bytes are of the name, and the rest of it is to come
abbrev pub invariant-loop-count : goal.invariant-loop-count
invariant-loop-count l = leading_name l.bytes ≡ take l.count l.bytes ++ leading_name (drop l.count l.bytes)
