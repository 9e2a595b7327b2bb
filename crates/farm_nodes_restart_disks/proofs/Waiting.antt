-- What a node had not done, where it is stopped or not.
use Rattle.std.proofs.Common.{◌≡◌, ℕ, List, Option, Some, None, sym, subst}
use Rattle.rooms_hall.specs.declared.hall.Naming as naming
use Rattle.farm_nodes_restart_node.specs.Offers.{ConstantsOffer, ExpressionsOffer, AllocationOffer, OrderOffer, IsConstants, IsExpressions, IsAllocation, IsOrder}
use Rattle.farm_nodes_restart_node.specs.NumberedSeat.{NumberedSeat}
use Rattle.farm_nodes_turn_step.specs.declared.stop.Pending.{Pending}
use Rattle.farm_nodes_restart_node.specs.Fours.{fours_of, Four}
use Rattle.farm_nodes_restart_node.specs.Leaves.{MayPend}
use Rattle.farm_nodes_restart_node.specs.Pending.{HavePending}
use Rattle.farm_nodes_turn_node.specs.declared.halted.Halted.{Halted}
use Rattle.farm_nodes_turn_node.specs.Waiting.{IsWaiting}
use Rattle.farm_nodes_restart_disks.specs.Stopped.{left_by, room_in}

module _ {H : Type 0} {h : naming.Ghosts H} where
  have_pending : (seats : List (NumberedSeat H h)) (halted : Option Halted)
      → IsWaiting seats halted → HavePending seats (room_in halted) (left_by halted)
  have_pending seats None waiting = tt
  have_pending seats (Some h) waiting = waiting

  -- it may still be pending there with seats that are seen as the same
  pub still_pending : (seats now : List (NumberedSeat H h)) (halted : Option Halted) (room : ℕ) (p : Option Pending)
      → room ≡ room_in halted → p ≡ left_by halted → fours_of now ≡ fours_of seats → IsWaiting seats halted → HavePending now room p
  still_pending seats now halted room p same_room same_pending same_seats waiting =
      subst (λ (l : List (Four ConstantsOffer ExpressionsOffer AllocationOffer OrderOffer)).
      MayPend IsConstants IsExpressions IsAllocation IsOrder room l p) (sym same_seats)
      (subst (λ (m : ℕ). HavePending seats m p) (sym same_room)
      (subst (λ (q : Option Pending). HavePending seats (room_in halted) q) (sym same_pending) (have_pending seats halted waiting)))

-- the same of what is said of a room and of what is pending there
pub at_both : (P : ℕ → Option Pending → Type 0) (m n : ℕ) (p q : Option Pending) → m ≡ n → p ≡ q → P m p → P n q
at_both P m n p q room pending holds = subst (λ (j : ℕ). P j q) room (subst (λ (r : Option Pending). P m r) pending holds)
