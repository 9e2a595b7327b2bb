use Rattle.std.proofs.Common.{take}
use Rattle.farm_nodes_link.specs.Learned.{learned_by}
use Rattle.cfarm_build_result.specs.Bundled.{AreTextsOf}
use Rattle.cfarm_build_result.proofs.bundling.all_texts.Given as goal

-- the texts of the first functions' offers
abbrev pub invariant-loop-function : goal.invariant-loop-function
invariant-loop-function g l = AreTextsOf (take l.function (learned_by l.seats)) l.texts.items
