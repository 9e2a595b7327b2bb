-- Two neighbours that met, and whether all functions were counted.
use Rattle.std.specs.Prelude.{◌≡◌, ℕ, suc, List, Some, slice_get}
use Rattle.rooms_hall.specs.declared.hall.Naming as naming
use Rattle.farm_nodes_turn_node.specs.NumberedSeat.{NumberedSeat}
use Rattle.cfarm_build_result.specs.Alike.{HaveCounted, HaveMissed}

-- The node of this number and the one behind it met, and all functions were counted.
abbrev pub AreCountedAt : {N H : Type 0} {h : naming.Ghosts H} → (N → List (NumberedSeat H h)) → List N → ℕ → Type 0
AreCountedAt {N} seats nodes number =
    (n m : N) → slice_get nodes number ≡ Some n → slice_get nodes (suc number) ≡ Some m → HaveCounted (seats n) (seats m)

-- The node of this number met the one behind it last of all, and not all functions of both were counted.
pub record AreMissed {N H : Type 0} {h : naming.Ghosts H} (seats : N → List (NumberedSeat H h)) (nodes : List N) : Type 0 where
  pub number : ℕ
  pub node : N
  pub next : N
  pub there : slice_get nodes number ≡ Some node
  pub behind : slice_get nodes (suc number) ≡ Some next
  pub missed : HaveMissed (seats node) (seats next)
