-- What is so of what was chosen is so of it as what the node is about to do.
use Rattle.std.proofs.Common.{◌≡◌, ℕ, Option, Some, None, IsSome, MatchOption, option_copied, Bor, Result, Ok, Err, IfErr, subst}
use Rattle.lang_base.specs.declared.language.Language as language
use Rattle.lang_base.specs.declared.pass.Pass as pass
use Rattle.offers.specs.declared.parts.Parts.{Parts}
use Rattle.offers.specs.Text.{text_of}
use Rattle.acceptor_log_form.specs.declared.record.Record.{Record}
use Rattle.farm_nodes_turn_offer.specs.Pending.{IsOfferText}
use Rattle.farm_nodes_turn_offer.specs.SeatValue.{SeatValue}
use Rattle.farm_nodes_turn_room.specs.Fault.{Fault}
use Rattle.farm_nodes_turn_room.specs.Fault.TheVariants as fault
use Rattle.farm_nodes_turn_room.specs.Played.{HasLearnedNone, IsChoiceFault, IsLearnedOutput, IsTooLarge}
use Rattle.farm_nodes_turn_function.specs.Turned.{HasLearned, IsTooLargeFrom}
use Rattle.farm_nodes_turn_function.proofs.Inputs.{has_input}
use Rattle.farm_nodes_sweep_step.specs.declared.staging.Staged.{Staged}
use Rattle.farm_nodes_sweep_room.specs.Chosen.{UnlessOffers, WhereActs, WhereNone, WhereOffers, WhereRests, WhereTold}
use Rattle.farm_nodes_sweep_room.specs.StagedOffer.{IsOfferHeld}
use Rattle.farm_nodes_sweep_room.specs.declared.choice.Choice.{Choice}
use Rattle.farm_nodes_sweep_room.specs.declared.choice.Choice.TheVariants as choice
use Rattle.farm_nodes_sweep_function.specs.Planned.{told_by}
use Rattle.farm_nodes_sweep_function.specs.Staged.{PlansOffer}
use Rattle.farm_nodes_sweep_function.specs.declared.planned.Step.{Step}
use Rattle.farm_nodes_sweep_function.specs.declared.planned.Step.TheVariants as step

module _ {B : Type 0} (by : B → Step) where
  pub where_told : (told : Result (Choice B) Fault) (P : Record → Step → Type 0) → WhereOffers told (λ r b. P r (by b))
      → WhereActs told (λ (staged : Staged). P staged.entry (step.Act staged.act)) → WhereTold (told_by by told) (λ m. P m.entry m.step)
  where_told (Ok (choice.Offer r b)) P offers acts = offers
  where_told (Ok (choice.Act staged)) P offers acts = acts
  where_told (Ok choice.Nothing) P offers acts = tt
  where_told (Err fault) P offers acts = tt

  pub where_none : (told : Result (Choice B) Fault) (A C D : Type 0) → (A → C → D) → UnlessOffers told A → WhereRests told C → WhereNone (told_by by told) D
  where_none (Ok (choice.Offer r b)) A C D both offered rests = tt
  where_none (Ok (choice.Act staged)) A C D both offered rests = tt
  where_none (Ok choice.Nothing) A C D both offered rests = both offered rests
  where_none (Err fault) A C D both offered rests = tt

  pub err_told : (told : Result (Choice B) Fault) (P : Fault → Type 0) → IfErr told P → IfErr (told_by by told) P
  err_told (Ok (choice.Offer r b)) P refused = tt
  err_told (Ok (choice.Act staged)) P refused = tt
  err_told (Ok choice.Nothing) P refused = tt
  err_told (Err fault) P refused = refused

module _ {B : Type 0} where
  pub acts_none : (told : Result (Choice B) Fault) → WhereActs told (λ (staged : Staged). Unit {0})
  acts_none (Ok (choice.Offer r b)) = tt
  acts_none (Ok (choice.Act staged)) = tt
  acts_none (Ok choice.Nothing) = tt
  acts_none (Err fault) = tt

  offers_map : (told : Result (Choice B) Fault) (P Q : Record → B → Type 0) → ((r : Record) (b : B) → P r b → Q r b) → WhereOffers told P → WhereOffers told Q
  offers_map (Ok (choice.Offer r b)) P Q f offers = f r b offers
  offers_map (Ok (choice.Act staged)) P Q f offers = tt
  offers_map (Ok choice.Nothing) P Q f offers = tt
  offers_map (Err fault) P Q f offers = tt

  -- an offer that was chosen is planned
  pub held_plans : {P X Y C I O : Type 0} (from : language.Ghosts X I) (to : language.Ghosts Y O) (by : pass.Ghosts P X Y C I O) (value : B → Parts I O C)
      (room : ℕ) (s : SeatValue (Parts I O C)) (told : Result (Choice B) Fault)
      → WhereOffers told (IsOfferHeld from to by value room s) → WhereOffers told (λ r b. PlansOffer (IsOfferText from to by) room s r (value b))
  held_plans from to by value room s told offers =
      offers_map told (IsOfferHeld from to by value room s) (λ r b. PlansOffer (IsOfferText from to by) room s r (value b))
      (λ r b held. record { first = held.first; text = text_of from to by (value b); told = held.told; entry = held.entry; may = held.may })
      offers

unless_map : {B : Type 0} (told : Result (Choice B) Fault) (P R : Type 0) → (P → R) → UnlessOffers told P → UnlessOffers told R
unless_map (Ok (choice.Offer r b)) P R f is = tt
unless_map (Ok (choice.Act staged)) P R f is = f is
unless_map (Ok choice.Nothing) P R f is = f is
unless_map (Err fault) P R f is = tt

-- ---- the input is the output that was learned in the room before

module _ {I M Q : Type 0} where
  learned_is : (input : Option (Bor M)) (before : SeatValue (Parts I M Q)) → MatchOption input (HasLearnedNone before) (λ r. IsLearnedOutput before r.now)
      → (i : M) → option_copied input ≡ Some i → IsLearnedOutput before i
  learned_is None before told i e = absurd (cc)
  learned_is (Some r) before told i e = let same : r.now ≡ i = cc in subst (λ (x : M). IsLearnedOutput before x) same told

  pub input_learned : {B O C : Type 0} (value : B → Parts M O C) (told : Result (Choice B) Fault) (input : Option (Bor M)) (before : SeatValue (Parts I M Q))
      → MatchOption input (HasLearnedNone before) (λ r. IsLearnedOutput before r.now)
      → WhereOffers told (λ r b. option_copied input ≡ Some (value b).input) → WhereOffers told (λ r b. IsLearnedOutput before (value b).input)
  input_learned value told input before learned offers =
      offers_map told (λ r b. option_copied input ≡ Some (value b).input) (λ r b. IsLearnedOutput before (value b).input)
      (λ r b same. learned_is input before learned (value b).input same) offers

  pub offered_learned : {B : Type 0} (X : Type 0) (told : Result (Choice B) Fault) (input : Option (Bor M)) (before : SeatValue (Parts I M Q))
      → MatchOption input (HasLearnedNone before) (λ r. IsLearnedOutput before r.now)
      → UnlessOffers told (IsSome input → X) → UnlessOffers told (HasLearned before → X)
  offered_learned X told input before learned offered =
      unless_map told (IsSome input → X) (HasLearned before → X) (λ has known. has (has_input input before learned known)) offered

  too_large : (large : M → Type 0) (input : Option (Bor M)) (before : SeatValue (Parts I M Q)) → MatchOption input (HasLearnedNone before) (λ r. IsLearnedOutput before r.now)
      → IsTooLarge large (option_copied input) → IsTooLargeFrom large before
  too_large large None before learned is = absurd is
  too_large large (Some r) before learned is = (r.now, learned, is)

  cause_learned : (large : M → Type 0) (input : Option (Bor M)) (before : SeatValue (Parts I M Q)) → MatchOption input (HasLearnedNone before) (λ r. IsLearnedOutput before r.now)
      → (f : Fault) → IsChoiceFault (IsTooLarge large (option_copied input)) f → IsChoiceFault (IsTooLargeFrom large before) f
  cause_learned large input before learned fault.NoMemory is = tt
  cause_learned large input before learned fault.TooManyRegisters is = too_large large input before learned is
  cause_learned large input before learned (fault.Journal e) is = absurd is
  cause_learned large input before learned fault.OtherRecords is = absurd is
  cause_learned large input before learned fault.CellRefused is = absurd is

  pub refused_learned : {B : Type 0} (large : M → Type 0) (told : Result (Choice B) Fault) (input : Option (Bor M)) (before : SeatValue (Parts I M Q))
      → MatchOption input (HasLearnedNone before) (λ r. IsLearnedOutput before r.now)
      → IfErr told (IsChoiceFault (IsTooLarge large (option_copied input))) → IfErr told (IsChoiceFault (IsTooLargeFrom large before))
  refused_learned large (Ok chosen) input before learned is = tt
  refused_learned large (Err f) input before learned is = cause_learned large input before learned f is
