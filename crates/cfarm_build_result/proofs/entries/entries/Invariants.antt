use Rattle.std.proofs.Common.{◌≡◌, map, take}
use Rattle.serde_json.specs.View.{view}
use Rattle.cfarm_build_result.specs.Report.{entry_of}
use Rattle.cfarm_build_result.proofs.entries.entries.Given as goal

-- the first functions are there
abbrev pub invariant-loop-number : goal.invariant-loop-number
invariant-loop-number l = map view l.values.items ≡ map entry_of (take l.number l.functions)
