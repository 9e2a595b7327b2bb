-- A turn in the room of one of the four passes of a function.
use Rattle.std.specs.Prelude.{◌≡◌, ◌<◌, ℕ, false, true, Some, None}
use Rattle.rand_pcg.specs.Lcg.{Lcg}
use Rattle.rand_pcg.specs.Pcg.{pcg32}
use Rattle.offers.specs.declared.parts.Parts.{Parts}
use Rattle.rtl_language.specs.Function.{FunctionData}
use Rattle.farm_nodes_turn_passes.specs.ConstPropPass.TheImpl as constants
use Rattle.farm_nodes_turn_passes.specs.CsePass.TheImpl as expressions
use Rattle.farm_nodes_turn_passes.specs.AllocPass.TheImpl as allocation
use Rattle.farm_nodes_turn_passes.specs.LinearizePass.TheImpl as order
use Rattle.farm_nodes_turn_room.specs.SeatAct.TheVariants as asked
use Rattle.farm_nodes_turn_room.specs.Would.{would}
use Rattle.farm_nodes_turn_room.specs.SeatValue.{SeatValue, offer_of}
use Rattle.farm_nodes_turn_room.specs.Quiet.{IsQuiet}
use Rattle.farm_nodes_turn_room.specs.Leading.{DrawsToLead, HasDrawn, LeadsByLot}
use Rattle.farm_nodes_turn_room.specs.Played.{IsLearnedOutput, IsMadeOn, StaysInTurn}
use Rattle.farm_nodes_turn_passes.specs.Offers.{ConstantsOffer, ExpressionsOffer, AllocationOffer, OrderOffer}
use Rattle.farm_nodes_turn_passes.specs.declared.which.Which.{Which}
use Rattle.farm_nodes_turn_passes.specs.declared.which.Which.TheVariants.{Constants, Expressions, Allocation, Order}
use Rattle.farm_nodes_turn_passes.specs.Fours.{Four, words_of}

-- the node has learned in this room, and has seen the offer
pub record HasLearned {T : Type 0} (s : SeatValue T) : Type 0 where
  pub value : ℕ
  pub offer : T
  pub learned : s.words.node.learned ≡ Some value
  pub among : value < s.words.node.quorums.nodes
  pub seen : offer_of s value ≡ Some offer

-- where the node made its offer, that goes on from the output that it had learned in the room before
abbrev pub IsMadeFrom : {I M O B C : Type 0} → SeatValue (Parts I M B) → SeatValue (Parts M O C) → SeatValue (Parts M O C) → Type 0
IsMadeFrom {I} {M} {O} {B} {C} before old new =
    old.words.node.kept.offered ≡ false → new.words.node.kept.offered ≡ true
    → (x : Parts M O C) × (offer_of new new.words.node.me ≡ Some x) × IsLearnedOutput before x.input

-- the output that was learned in the room before is known, and has no baseline
abbrev pub IsTooLargeFrom : {I M B : Type 0} → (M → Type 0) → SeatValue (Parts I M B) → Type 0
IsTooLargeFrom {I} {M} {B} too_large before = (input : M) × IsLearnedOutput before input × too_large input

module _ {A1 A2 A3 A4 A5 C1 C2 C3 C4 : Type 0} where
  -- an offer that the node made has the input of the pass
  abbrev pub IsMadeIn : A1 → Which → Four (Parts A1 A2 C1) (Parts A2 A3 C2) (Parts A3 A4 C3) (Parts A4 A5 C4)
      → Four (Parts A1 A2 C1) (Parts A2 A3 C2) (Parts A3 A4 C3) (Parts A4 A5 C4) → Type 0
  IsMadeIn function Constants old new = IsMadeOn (Some function) old.constants new.constants
  IsMadeIn function Expressions old new = IsMadeFrom old.constants old.expressions new.expressions
  IsMadeIn function Allocation old new = IsMadeFrom old.expressions old.allocation new.allocation
  IsMadeIn function Order old new = IsMadeFrom old.allocation old.order new.order

  -- the input has no baseline
  abbrev pub IsTooLargeIn : (A1 → Type 0) → (A2 → Type 0) → (A3 → Type 0) → (A4 → Type 0) → A1 → Which
      → Four (Parts A1 A2 C1) (Parts A2 A3 C2) (Parts A3 A4 C3) (Parts A4 A5 C4) → Type 0
  IsTooLargeIn first second third fourth function Constants seats = first function
  IsTooLargeIn first second third fourth function Expressions seats = IsTooLargeFrom second seats.constants
  IsTooLargeIn first second third fourth function Allocation seats = IsTooLargeFrom third seats.expressions
  IsTooLargeIn first second third fourth function Order seats = IsTooLargeFrom fourth seats.allocation

-- the same of the passes as they are
abbrev pub IsTooLargeFor : FunctionData → Which → Four ConstantsOffer ExpressionsOffer AllocationOffer OrderOffer → Type 0
IsTooLargeFor function pass seats =
    IsTooLargeIn (constants.ghosts).too_large (expressions.ghosts).too_large (allocation.ghosts).too_large (order.ghosts).too_large
    function pass seats

module _ {T1 T2 T3 T4 : Type 0} where
  -- the node knows the input of the pass
  abbrev pub HasInput : Which → Four T1 T2 T3 T4 → Type 0
  HasInput Constants seats = Unit {0}
  HasInput Expressions seats = HasLearned seats.constants
  HasInput Allocation seats = HasLearned seats.expressions
  HasInput Order seats = HasLearned seats.allocation

  -- what a turn leaves of the seat
  abbrev pub StaysIn : Which → Four T1 T2 T3 T4 → Four T1 T2 T3 T4 → Type 0
  StaysIn Constants old new = StaysInTurn old.constants new.constants
  StaysIn Expressions old new = StaysInTurn old.expressions new.expressions
  StaysIn Allocation old new = StaysInTurn old.allocation new.allocation
  StaysIn Order old new = StaysInTurn old.order new.order

  -- the other seats, and the number of the rooms, are as they were
  abbrev pub OthersStay : Which → Four T1 T2 T3 T4 → Four T1 T2 T3 T4 → Type 0
  OthersStay Constants old new = new ≡ record old { constants = new.constants }
  OthersStay Expressions old new = new ≡ record old { expressions = new.expressions }
  OthersStay Allocation old new = new ≡ record old { allocation = new.allocation }
  OthersStay Order old new = new ≡ record old { order = new.order }

  -- What a turn draws: where the node had offered, at most the one word to lead; and no ballot is started but by that.
  abbrev pub DrawsIn : Which → Lcg → Lcg → Four T1 T2 T3 T4 → Four T1 T2 T3 T4 → Type 0
  DrawsIn pass draws drawn old new = DrawsToLead draws drawn (words_of old pass) (words_of new pass)

  -- What stands after a turn that did not fail: the node has offered if it knew the input; nothing is left to accept, to promise
  -- or to propose; where it had offered before, it has led if the generator's next word was 0 modulo 4; and where it made no offer,
  -- the generator has drawn that word if the node might start a ballot, and else none.
  pub record StandsAfter (pass : Which) (draws drawn : Lcg) (old new : Four T1 T2 T3 T4) : Type 0 where
    pub offered : HasInput pass old → (words_of new pass).node.kept.offered ≡ true
    pub quiet : (j : ℕ) → j < (words_of new pass).node.quorums.nodes → IsQuiet j (words_of new pass)
    pub proposed : would (words_of new pass) asked.Propose ≡ None
    pub led : LeadsByLot (pcg32 draws).0 (words_of old pass) (words_of new pass)
    pub has_drawn : HasDrawn draws drawn (words_of old pass) (words_of new pass)

-- what a turn in the room of this pass leaves of a function's seats
pub record LeavesSeats {A1 A2 A3 A4 A5 C1 C2 C3 C4 : Type 0} (function : A1) (pass : Which)
    (old new : Four (Parts A1 A2 C1) (Parts A2 A3 C2) (Parts A3 A4 C3) (Parts A4 A5 C4)) : Type 0 where
  pub stays : StaysIn pass old new
  pub others : OthersStay pass old new
  pub made : IsMadeIn function pass old new
