-- The input of a pass behind the first: what was learned in the room before.
use Rattle.std.proofs.Common.{◌≡◌, ◌<◌, ℕ, true, Option, Some, None, IsSome, MatchOption, option_copied, Bor, Result, Ok, Err, OnOk, IfErr, refl, subst}
use Rattle.rand_pcg.specs.Lcg.{Lcg}
use Rattle.rand_pcg.specs.Pcg.{pcg32}
use Rattle.offers.specs.declared.parts.Parts.{Parts}
use Rattle.farm_nodes_turn_room.specs.SeatValue.{SeatValue}
use Rattle.farm_nodes_turn_room.specs.SeatAct.TheVariants as asked
use Rattle.farm_nodes_turn_room.specs.Would.{would}
use Rattle.farm_nodes_turn_room.specs.Quiet.{IsQuiet}
use Rattle.farm_nodes_turn_room.specs.Leading.{HasDrawn, LeadsByLot}
use Rattle.farm_nodes_turn_passes.specs.Fours.{Four, words_of}
use Rattle.farm_nodes_turn_passes.specs.declared.which.Which.{Which}
use Rattle.farm_nodes_turn_room.specs.Played.{HasLearnedNone, IsLearnedOutput, IsMadeOn}
use Rattle.farm_nodes_turn_function.specs.Turned.{HasInput, HasLearned, IsMadeFrom, StandsAfter}

module _ {I M B : Type 0} where
  input_is : (input : Option (Bor M)) (before : SeatValue (Parts I M B)) → MatchOption input (HasLearnedNone before) (λ r. IsLearnedOutput before r.now)
      → (i : M) → option_copied input ≡ Some i → IsLearnedOutput before i
  input_is None before told i e = absurd (cc)
  input_is (Some r) before told i e = let same : r.now ≡ i = cc in subst (λ (x : M). IsLearnedOutput before x) same told

  pub has_input : (input : Option (Bor M)) (before : SeatValue (Parts I M B)) → MatchOption input (HasLearnedNone before) (λ r. IsLearnedOutput before r.now)
      → HasLearned before → IsSome input
  has_input None before told h = absurd (told h.value h.offer h.learned h.among h.seen)
  has_input (Some r) before told h = refl

pub made_from : {I M O B C : Type 0} (input : Option (Bor M)) (before : SeatValue (Parts I M B)) (old new : SeatValue (Parts M O C))
    → MatchOption input (HasLearnedNone before) (λ r. IsLearnedOutput before r.now)
    → IsMadeOn (option_copied input) old new → IsMadeFrom before old new
made_from input before old new told made was is =
    let x = made was is in (x.0, x.1, input_is input before told x.0.input x.2)

pub on_ok : {A E : Type 0} (r : Result A E) (P Q : Type 0) → (P → Q) → OnOk r P → OnOk r Q
on_ok (Ok a) P Q f p = f p
on_ok (Err e) P Q f p = p

pub if_err : {A E : Type 0} (r : Result A E) (P Q : E → Type 0) → ((e : E) → P e → Q e) → IfErr r P → IfErr r Q
if_err (Ok a) P Q f p = p
if_err (Err e) P Q f p = f e p

-- what stands after a turn that did not fail, of its parts
pub stands_after : {A E T1 T2 T3 T4 : Type 0} (r : Result A E) (pass : Which) (draws drawn : Lcg) (old new : Four T1 T2 T3 T4)
    → OnOk r (HasInput pass old → (words_of new pass).node.kept.offered ≡ true)
    → OnOk r ((j : ℕ) → j < (words_of new pass).node.quorums.nodes → IsQuiet j (words_of new pass))
    → OnOk r (would (words_of new pass) asked.Propose ≡ None)
    → OnOk r (LeadsByLot (pcg32 draws).0 (words_of old pass) (words_of new pass))
    → OnOk r (HasDrawn draws drawn (words_of old pass) (words_of new pass))
    → OnOk r (StandsAfter pass draws drawn old new)
stands_after (Ok a) pass draws drawn old new offered quiet proposed led has =
    record { offered = offered; quiet = quiet; proposed = proposed; led = led; has_drawn = has }
stands_after (Err e) pass draws drawn old new offered quiet proposed led has = offered
