-- A report has no number but whole ones.
use Rattle.std.proofs.Common.{◌≡◌, ◌||◌, false, List, [], ◌∷◌, map, refl, ap, ℕ}
use Rattle.serde_json.specs.View.{items_of}
use Rattle.serde_json.specs.Written.{has_float, items_have_float}
use Rattle.cfarm_build_result.specs.Report.{entry_of, report_of}
use Rattle.cfarm_build_result.specs.declared.function.FunctionRooms.{FunctionRooms}

entries_whole : (functions : List FunctionRooms) → items_have_float (items_of (map entry_of functions)) ≡ false
entries_whole [] = refl
entries_whole (f ∷ functions) = entries_whole functions

pub report_whole : (functions : List FunctionRooms) (digest : List ℕ) (nodes : ℕ) → has_float (report_of functions digest nodes) ≡ false
report_whole functions digest nodes = ap (λ whole. whole || false) (entries_whole functions)
