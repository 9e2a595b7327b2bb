-- What is pending with the seats of one function is so with the seats of all.
use Rattle.std.proofs.Common.{◌≡◌, ℕ, List, map, slice_get, Option, Some, None}
use Rattle.rooms_hall.specs.declared.hall.Naming as naming
use Rattle.farm_nodes_turn_passes.specs.Offers.{IsConstants, IsExpressions, IsAllocation, IsOrder}
use Rattle.farm_nodes_turn_room.specs.Pending.{Pending as Waiting}
use Rattle.farm_nodes_turn_passes.specs.NumberedSeat.{NumberedSeat}
use Rattle.farm_nodes_turn_passes.specs.declared.which.Which.{Which}
use Rattle.farm_nodes_turn_passes.specs.declared.which.Which.TheVariants.{Constants, Expressions, Allocation, Order}
use Rattle.farm_nodes_turn_passes.specs.Fours.{Four, four_of}
use Rattle.farm_nodes_turn_passes.specs.Leaves.{IsPendingIn, MayPend, MayPendIn}
use Rattle.farm_nodes_turn_passes.specs.Numbers.{function_of, pass_of}
use Rattle.farm_nodes_turn_passes.specs.Pending.{HasPending, HavePending}
use Rattle.farm_nodes_turn_function.proofs.Places.{map_at}

module _ {T1 T2 T3 T4 : Type 0} (IsText1 : List ℕ → T1 → Type 0) (IsText2 : List ℕ → T2 → Type 0)
    (IsText3 : List ℕ → T3 → Type 0) (IsText4 : List ℕ → T4 → Type 0) (room : ℕ) where
  in_pass : (which : Which) (s : Four T1 T2 T3 T4) (p : Waiting) → MayPendIn IsText1 IsText2 IsText3 IsText4 room which s (Some p)
      → IsPendingIn IsText1 IsText2 IsText3 IsText4 room which s p
  in_pass Constants s p is = is
  in_pass Expressions s p is = is
  in_pass Allocation s p is = is
  in_pass Order s p is = is

  in_all : {X : Type 0} (f : X → Four T1 T2 T3 T4) (ys : List X) (y : X) (p : Option Waiting) → slice_get ys (function_of room) ≡ Some y
      → MayPendIn IsText1 IsText2 IsText3 IsText4 room (pass_of room) (f y) p → MayPend IsText1 IsText2 IsText3 IsText4 room (map f ys) p
  in_all f ys y None at is = tt
  in_all f ys y (Some p) at is = (f y, map_at f ys (function_of room) y at, in_pass (pass_of room) (f y) p is)

module _ {H : Type 0} {h : naming.Ghosts H} where
  pub with_all : (seats : List (NumberedSeat H h))
      (s : NumberedSeat H h)
      (room : ℕ) (p : Option Waiting) → slice_get seats (function_of room) ≡ Some s → HasPending s room (pass_of room) p → HavePending seats room p
  with_all seats s room p at is =
      in_all IsConstants IsExpressions IsAllocation IsOrder room four_of seats s p at is
