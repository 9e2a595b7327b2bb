-- What three nodes of a room have agreed on, whatever the pass is that the room's offers are of.
use Rattle.std.specs.Prelude.{◌≡◌, ℕ, zero, suc, List, Option, Some, Result, IfOk, IfSome}
use Rattle.std.specs.Borrow.{MutBor}
use Rattle.std.specs.Global.{Vec}
use denote.Triple.Both.{Both}
use Rattle.lang_base.specs.Keeps.{Keeps}
use Rattle.lang_base.specs.declared.language.Language as language
use Rattle.lang_base.specs.declared.pass.Pass as pass
use Rattle.lang_base.specs.declared.program.Global.{Global}
use Rattle.offers.specs.declared.parts.Parts.{Parts}
use Rattle.offers.specs.OneFunction.{program_of_one}
use Rattle.rooms.specs.SeatValue.{SeatValue, offer_of}
use Rattle.cfarm_settle_nodes.specs.Goes.{AllOfferFor, AreThree}
use Rattle.cfarm_settle_nodes.specs.Learned.{IsLearnedByAll}

-- the bytes that were found, if any were, are such
abbrev pub IsFoundAs : {E : Type 0} → (List ℕ → Type 0) → Result (Option (Vec ℕ)) E → Type 0
IsFoundAs IsSuch result = IfOk result (λ found. IfSome found (λ code. IsSuch code.items))

-- the seat's node has offered this
abbrev pub IsOwnOffer : {T : Type 0} → T → SeatValue T → Type 0
IsOwnOffer x s = offer_of s s.words.node.me ≡ Some x

-- of three nodes this one has offered this
abbrev pub IsOfferOf : {T : Type 0} → ℕ → T → SeatValue T → SeatValue T → SeatValue T → Type 0
IsOfferOf zero x first second third = IsOwnOffer x first
IsOfferOf (suc zero) x first second third = IsOwnOffer x second
IsOfferOf (suc (suc zero)) x first second third = IsOwnOffer x third
IsOfferOf (suc (suc (suc node))) x first second third = ⊥

-- These are the seats of the three nodes of a room that began with nothing; at the end of the run that the first has seen all three
-- have learned the node's number, and this is what the node has offered.
pub record HaveAgreed {T : Type 0} (node : ℕ) (x : T) (first second third : SeatValue T) : Type 0 where
  pub room : AreThree first second third
  pub learned : IsLearnedByAll first.words.view.seen node
  pub offered : IsOfferOf node x first second third

module _ {P A B C I O : Type 0} (from : language.Ghosts A I) (to : language.Ghosts B O) (by : pass.Ghosts P A B C I O) where
  -- the pass accepts the offer, and a program of its output alone keeps the meaning of its input's; these are the bytes of its output
  pub record IsCode (x : Parts I O C) (code : List ℕ) : Type 0 where
    pub accepted : by.accepts x.input x.output x.certificate
    pub keeps : (globals : List Global) (name : List ℕ) →
        Keeps (from.run (program_of_one globals name x.input)) (to.run (program_of_one globals name x.output))
    pub spells : code ≡ to.spelling x.output

  -- they are those of the seat's own offer
  abbrev pub IsOwnCode : SeatValue (Parts I O C) → List ℕ → Type 0
  IsOwnCode s code = (x : Parts I O C) × IsOwnOffer x s × IsCode x code

  -- they are those of what the node has offered
  abbrev pub IsCodeOf : ℕ → SeatValue (Parts I O C) → SeatValue (Parts I O C) → SeatValue (Parts I O C) → List ℕ → Type 0
  IsCodeOf node first second third code = (x : Parts I O C) × IsOfferOf node x first second third × IsCode x code

  -- they are those of an offer for this input that the nodes of these three seats have agreed on
  pub record IsAgreed (input : I) (first second third : SeatValue (Parts I O C)) (bytes : List ℕ) : Type 0 where
    pub node : ℕ
    pub offer : Parts I O C
    pub offered : offer.input ≡ input
    pub agreed : HaveAgreed node offer first second third
    pub code : IsCode offer bytes

  -- Where the nodes of three seats offered for an input, the bytes that were found, if any were, are those that they have agreed on for it:
  -- of each seat it is said as it was and as it is.
  abbrev pub HaveFound : {E : Type 0} → (first second third : Both (MutBor (SeatValue (Parts I O C))) (MutBor (SeatValue (Parts I O C)))) →
      Result (Option (Vec ℕ)) E → Type 0
  HaveFound first second third result =
      (input : I) → AllOfferFor input first.entry.now second.entry.now third.entry.now
      → IsFoundAs (IsAgreed input first.exit.now second.exit.now third.exit.now) result
