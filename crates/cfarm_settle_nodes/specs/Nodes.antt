-- Three nodes of one room that take turns.
use Rattle.std.specs.Prelude.{◌≡◌, List, [], ◌∷◌, Option, IfSome}
use Rattle.offers.specs.declared.parts.Parts.{Parts}
use Rattle.rooms.specs.SeatValue.{SeatValue}
use Rattle.cfarm_settle_nodes.specs.Goes.{AreSeatsFor, SeatGoesOn}

-- a turn leaves the node its input, and its seat goes on
abbrev pub HasTurned : {F G C : Type 0} → F → F → SeatValue (Parts F G C) → SeatValue (Parts F G C) → Type 0
HasTurned f g old new = (g ≡ f) × SeatGoesOn f old new

-- each of the three is this
abbrev pub AreAll : {F : Type 0} → F → F × F × F → Type 0
AreAll f three = (three.0 ≡ f) × (three.1 ≡ f) × (three.2 ≡ f)

module _ {N F G C : Type 0} (seat : N → SeatValue (Parts F G C)) (input : N → F) where
  -- three nodes of one room that began with nothing, each of this input, and what they have offered is for it
  pub record AreNodes (f : F) (nodes : List N) : Type 0 where
    pub first : N
    pub second : N
    pub third : N
    pub are : nodes ≡ first ∷ second ∷ third ∷ []
    pub seats : AreSeatsFor f (seat first, seat second, seat third)
    pub inputs : AreAll f (input first, input second, input third)

  -- whatever input such nodes are of, these, if there are any, are the seats of three nodes for it
  abbrev pub AreSeatsOf : List N → Option (SeatValue (Parts F G C) × SeatValue (Parts F G C) × SeatValue (Parts F G C)) → Type 0
  AreSeatsOf nodes result = (f : F) → AreNodes f nodes → IfSome result (AreSeatsFor f)
