-- What records leave of a node's seats, and what a halted node has pending there.
use Rattle.std.specs.Prelude.{◌≡◌, ℕ, ◌≤◌, true, List, [], length, Option, Some, None, slice_get}
use Rattle.paxos_core_world.specs.KeptPart.{nothing_kept}
use Rattle.acceptor_log_form.specs.declared.record.Record.{Record}
use Rattle.acceptor_log_form.specs.Leaves.{kept_in}
use Rattle.farm_nodes_turn_offer.specs.FarmNodesTurnStepPending.{Pending}
use Rattle.farm_nodes_turn_offer.specs.Halted.{left_over}
use Rattle.farm_nodes_turn_offer.specs.Told.{last_offer_in, IsToldAs}
use Rattle.farm_nodes_turn_offer.specs.Pending.{IsAsked, IsPendingOn, MayPendOn}
use Rattle.farm_nodes_turn_passes.specs.Fours.{Four, words_of}
use Rattle.farm_nodes_turn_passes.specs.Texts.{Texts, IsOwnTextIn}
use Rattle.farm_nodes_turn_passes.specs.Numbers.{function_of, pass_of}
use Rattle.farm_nodes_turn_passes.specs.declared.which.Which.{Which}
use Rattle.farm_nodes_turn_passes.specs.declared.which.Which.TheVariants.{Constants, Expressions, Allocation, Order}

module _ {X1 X2 X3 X4 : Type 0} where
  -- The records leave of each room what the seat there keeps, and of other rooms nothing. Where its node has offered, they tell the
  -- text of the offer that stands in its cell.
  pub record Leave (texts : Texts X1 X2 X3 X4) (seats : List (Four X1 X2 X3 X4)) (rs : List Record) : Type 0 where
    pub rooms : (m : ℕ) (s : Four X1 X2 X3 X4) → slice_get seats (function_of m) ≡ Some s
        → kept_in rs m ≡ (words_of s (pass_of m)).node.kept
    pub no_others : (m : ℕ) → length seats ≤ function_of m → kept_in rs m ≡ nothing_kept
    pub offers : (m : ℕ) (s : Four X1 X2 X3 X4) → slice_get seats (function_of m) ≡ Some s
        → (words_of s (pass_of m)).node.kept.offered ≡ true → IsToldAs (IsOwnTextIn texts (pass_of m) s) (last_offer_in rs m)

  -- the record of what a halted node has not done in the room, if there is one
  abbrev pub left_in : Option (Four X1 X2 X3 X4) → ℕ → Option Pending → List Record
  left_in None room p = []
  left_in (Some s) room p = left_over room (words_of s (pass_of room)) p

  abbrev pub pending_at : List (Four X1 X2 X3 X4) → ℕ → Option Pending → List Record
  pending_at seats room p = left_in (slice_get seats (function_of room)) room p

  -- what is pending is asked in the room, which is one of the seats'
  abbrev pub MayAsk : List (Four X1 X2 X3 X4) → ℕ → Option Pending → Type 0
  MayAsk seats room None = Unit {0}
  MayAsk seats room (Some p) =
      (s : Four X1 X2 X3 X4) × (slice_get seats (function_of room) ≡ Some s) × IsAsked (words_of s (pass_of room)) p

-- Each pass has its own offers, and texts of them.
module _ {X1 X2 X3 X4 : Type 0} (IsText1 : List ℕ → X1 → Type 0) (IsText2 : List ℕ → X2 → Type 0)
    (IsText3 : List ℕ → X3 → Type 0) (IsText4 : List ℕ → X4 → Type 0) (room : ℕ) where
  -- it may be pending with the seat of this pass
  abbrev pub IsPendingIn : Which → Four X1 X2 X3 X4 → Pending → Type 0
  IsPendingIn Constants s p = IsPendingOn IsText1 room s.constants p
  IsPendingIn Expressions s p = IsPendingOn IsText2 room s.expressions p
  IsPendingIn Allocation s p = IsPendingOn IsText3 room s.allocation p
  IsPendingIn Order s p = IsPendingOn IsText4 room s.order p

  -- it may be pending with the seat of the room
  abbrev pub MayPend : List (Four X1 X2 X3 X4) → Option Pending → Type 0
  MayPend seats None = Unit {0}
  MayPend seats (Some p) =
      (s : Four X1 X2 X3 X4) × (slice_get seats (function_of room) ≡ Some s) × IsPendingIn (pass_of room) s p

  -- the same of one function's seats
  abbrev pub MayPendIn : Which → Four X1 X2 X3 X4 → Option Pending → Type 0
  MayPendIn Constants s p = MayPendOn IsText1 room s.constants p
  MayPendIn Expressions s p = MayPendOn IsText2 room s.expressions p
  MayPendIn Allocation s p = MayPendOn IsText3 room s.allocation p
  MayPendIn Order s p = MayPendOn IsText4 room s.order p
