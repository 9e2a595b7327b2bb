-- Locations and what is made of them are forms: each text is read again, and nothing else is.
use Rattle.std.proofs.Common.{◌≡◌, ◌≢◌, ℕ, ◌<◌, ◌≤◌, ◌^◌, true, List, [], ◌∷◌, ◌++◌, length, Option, Some, None, Ok, refl, sym, ap, subst, arith}
use Rattle.std.specs.Prelude.{◌&&◌, IfSome, not, nat_le}
use Rattle.std.specs.Int.{w16, to_be_bytes}
use Rattle.std.specs.List.{AllByRecursion, list_any, list_all}
use Rattle.std.proofs.lemmas.Bool.{eqb-true, eq-eqb, ltb-true, lt-ltb, leb-true, le-leb, and_parts, and_from, not-true, not_from_false}
use Rattle.lang_helpers.specs.FormError.TheVariants.{NotCanonical, TooLarge}
use Rattle.lang_helpers.specs.Reading.{byte, number, tested, up_to, both, follow, unknown}
use Rattle.lang_helpers.specs.Texts.{EachFits}
use Rattle.lang_helpers.proofs.Forms.{IsForm}
use Rattle.lang_helpers.proofs.Parts.{byte_form, number16_form, made_takes, made_again, made_form, tested_form, fits_form, below_form, up_to_form, both_form}
use Rattle.lang_helpers.proofs.Lists.{counted_form, each_fits, fits_each, HasCode, unknown_takes, follow_form, coded_form, optional_form}
use Rattle.locations.specs.declared.location.Location.{Location}
use Rattle.locations.specs.declared.location.Location.TheVariants.{InRegister, InSlot}
use Rattle.lang_helpers.specs.Limits.{function_number}
use Rattle.lang_helpers.proofs.Limits.{function_number_form}
use Rattle.locations.specs.Fits.{parameter_limit, slot_limit, function_limit, RegisterFits, ValueFits, LocationFits, TargetFits, HasRegister, MoveFits, MovesFit, CallFits, AreDistinct, ParametersFit}
use Rattle.locations.specs.Spelling.{byte_text, value_text, location_code, location_body, location_text, locations_text, target_text, move_text, moves_text, call_text, frame_text}
use Rattle.locations.specs.Reading.{register, value, locations, location, is_slot, one_move, moves, target, arguments, call, same_location, parameter, parameters, lies_within, frame}
use Rattle.locations.proofs.Distinct.{each_both, both_each, none_same, same_none, keys_of, IsNewKey, each_distinct, distinct_each}
pub use Rattle.lang_helpers.proofs.Limits.{global_form}

pub register_form : IsForm register byte_text RegisterFits
unfolding register
register_form = below_form 8 byte_form (λ n lt. omega arith)

value_fits : (o : Option ℕ) → IfSome o RegisterFits → ValueFits o
value_fits None fits = tt
value_fits (Some r) fits = fits

fits_value : (o : Option ℕ) → ValueFits o → IfSome o RegisterFits
fits_value None fits = tt
fits_value (Some r) fits = fits

pub value_form : IsForm value value_text ValueFits
unfolding value
value_form = fits_form (optional_form register_form) value_fits fits_value

-- ---- locations and moves

location_again : (slots : ℕ) → slots ≤ 2 ^ 16 → (l : Location) (rest : List ℕ) → LocationFits slots l → follow (locations slots) unknown (location_code l) (location_body l ++ rest) ≡ Ok (l, rest)
location_again slots few (InRegister r) rest fits = made_again (λ q. InRegister q) register_form r rest fits
location_again slots few (InSlot s) rest fits = made_again (λ t. InSlot t) (below_form slots number16_form (λ n lt. omega arith)) s rest fits

pub location_form : (slots : ℕ) → slots ≤ 2 ^ 16 → IsForm (location slots) location_text (LocationFits slots)
unfolding location
location_form slots few =
    let at = HasCode location_code location_body (LocationFits slots) in
    coded_form location_code location_body (LocationFits slots) (follow (locations slots) unknown)
    (follow_form location_code location_body (LocationFits slots) (locations slots) unknown (
      made_takes (λ r. InRegister r) register_form location_body (at 0) (λ r fits. (refl, (fits, refl))),
      (made_takes (λ s. InSlot s) (below_form slots number16_form (λ n lt. omega arith)) location_body (at 1) (λ s fits. (refl, (fits, refl))), tt),
    )
    (unknown_takes location_code location_body (LocationFits slots))
    (location_again slots few))

through : (target source : Location) → not (is_slot target && is_slot source) ≡ true → HasRegister target source
through (InRegister r) source e = tt
through (InSlot s) (InRegister r) e = tt
through (InSlot s) (InSlot t) e = absurd cc

through_back : (target source : Location) → HasRegister target source → not (is_slot target && is_slot source) ≡ true
through_back (InRegister r) source h = refl
through_back (InSlot s) (InRegister r) h = refl
through_back (InSlot s) (InSlot t) h = absurd h

abbrev EndsFit : ℕ → Location × Location → Type 0
EndsFit slots p = (LocationFits slots p.0 × LocationFits slots p.1) × HasRegister p.0 p.1

abbrev ends_text : Location × Location → List ℕ
ends_text p = location_text p.0 ++ location_text p.1

pub move_form : (slots : ℕ) → slots ≤ 2 ^ 16 → IsForm (one_move slots) move_text (MoveFits slots)
unfolding one_move
move_form slots few =
    let one = location_form slots few in
    let ends : IsForm (tested (λ p. not (is_slot p.0 && is_slot p.1)) NotCanonical (both (location slots) (λ target. location slots))) ends_text (EndsFit slots) =
    tested_form (λ p. not (is_slot p.0 && is_slot p.1)) NotCanonical (both_form (location slots) location_text (LocationFits slots) one (λ target. location slots) (λ target. location_text) (λ target. LocationFits slots) (λ target fits. one)) (EndsFit slots)
    (λ p fits passes. (fits, through p.0 p.1 passes))
    (λ p fits. (fits.0, through_back p.0 p.1 fits.1)) in
    made_form (λ (p : Location × Location). record { target = p.0; source = p.1 }) ends move_text (MoveFits slots)
    (λ p fits. (refl, record { target = fits.0.0; source = fits.0.1; through = fits.1 }))
    (λ m fits. ((m.target, m.source), ((fits.target, fits.source), fits.through), refl))

pub moves_form : (slots : ℕ) → slots ≤ 2 ^ 16 → IsForm (moves slots) moves_text (MovesFit slots)
unfolding moves
moves_form slots few =
    fits_form (counted_form (λ before. one_move slots) move_text (λ before. MoveFits slots) (λ before. move_form slots few) byte byte_text (λ n. n < 256) byte_form)
    (λ ms fits. record { few = omega (arith, fits.0); each = each_fits (MoveFits slots) [] ms fits.1 })
    (λ ms fits. (omega (arith, fits.few), fits_each (MoveFits slots) [] ms fits.each))

-- ---- what a call names

target_fits : (slots : ℕ) (o : Option Location) → IfSome o (LocationFits slots) → TargetFits slots o
target_fits slots None fits = tt
target_fits slots (Some l) fits = fits

fits_target : (slots : ℕ) (o : Option Location) → TargetFits slots o → IfSome o (LocationFits slots)
fits_target slots None fits = tt
fits_target slots (Some l) fits = fits

target_form : (slots : ℕ) → slots ≤ 2 ^ 16 → IsForm (target slots) target_text (TargetFits slots)
unfolding target
target_form slots few = fits_form (optional_form (location_form slots few)) (target_fits slots) (fits_target slots)

abbrev ArgumentsFit : ℕ → List Location → Type 0
ArgumentsFit slots ls = (length ls < 256) × AllByRecursion (LocationFits slots) ls

arguments_form : (slots : ℕ) → slots ≤ 2 ^ 16 → IsForm (arguments slots) locations_text (ArgumentsFit slots)
unfolding arguments
arguments_form slots few =
    fits_form (counted_form (λ before. location slots) location_text (λ before. LocationFits slots) (λ before. location_form slots few) byte byte_text (λ n. n < 256) byte_form)
    (λ ls fits. (fits.0, each_fits (LocationFits slots) [] ls fits.1))
    (λ ls fits. (fits.0, fits_each (LocationFits slots) [] ls fits.1))

abbrev pub CallParts : Type 0
CallParts = ℕ × (List Location × Option Location)

abbrev pub CallPartsFit : ℕ → CallParts → Type 0
CallPartsFit slots p = CallFits slots p.0 p.1.0 p.1.1

pub call_form : (slots : ℕ) → slots ≤ 2 ^ 16 → IsForm (call slots) call_text (CallPartsFit slots)
unfolding call
call_form slots few =
    fits_form
    (both_form function_number byte_text (λ n. n < function_limit) function_number_form
    (λ f. both (arguments slots) (λ names. target slots)) (λ f p. locations_text p.0 ++ target_text p.1) (λ f p. ArgumentsFit slots p.0 × TargetFits slots p.1)
    (λ f fits. both_form (arguments slots) locations_text (ArgumentsFit slots) (arguments_form slots few) (λ names. target slots) (λ names. target_text) (λ names. TargetFits slots) (λ names fits. target_form slots few)))
    (λ p fits. record { function = fits.0; few = omega (arith, fits.1.0.0); arguments = fits.1.0.1; target = fits.1.1 })
    (λ p fits. let short : length p.1.0 < 256 = omega (arith, fits.few) in (fits.function, ((short, fits.arguments), fits.target)))

-- ---- parameters and slots

same_tells : (a b : Location) → same_location a b ≡ true → a ≡ b
same_tells (InRegister r) (InRegister q) e = ap (λ n. InRegister n) (eqb-true r q e)
same_tells (InRegister r) (InSlot s) e = absurd cc
same_tells (InSlot s) (InRegister r) e = absurd cc
same_tells (InSlot s) (InSlot t) e = ap (λ n. InSlot n) (eqb-true s t e)

same_itself : (a : Location) → same_location a a ≡ true
same_itself (InRegister r) = eq-eqb r r refl
same_itself (InSlot s) = eq-eqb s s refl

abbrev ParameterFits : List Location → Location → Type 0
ParameterFits before l = LocationFits (2 ^ 16) l × AllByRecursion (λ k. k ≢ l) before

parameter_form : (before : List Location) → IsForm (parameter before) location_text (ParameterFits before)
unfolding parameter
parameter_form before =
    tested_form (λ l. not (list_any (λ k. same_location k l) before)) NotCanonical (location_form (2 ^ 16) (omega arith)) (ParameterFits before)
    (λ l fits passes. (fits, none_same same_location same_tells same_itself l before (not-true _ passes)))
    (λ l fits. (fits.0, not_from_false _ (same_none same_location same_tells same_itself l before fits.1)))

parameters_form : IsForm parameters (locations_text) (λ ps. (length ps ≤ parameter_limit) × EachFits ParameterFits [] ps)
unfolding parameters
parameters_form = counted_form parameter location_text ParameterFits parameter_form (up_to parameter_limit byte) byte_text (λ n. n ≤ parameter_limit) (up_to_form parameter_limit byte_form (λ n le. omega arith))

keys_themselves : (ps : List Location) → keys_of (λ l. Some l) ps ≡ ps
keys_themselves [] = refl
keys_themselves (p ∷ ps) = ap (λ l. p ∷ l) (keys_themselves ps)

new_key : (before ps : List Location) → EachFits (λ b l. AllByRecursion (λ k. k ≢ l) b) before ps → EachFits (λ b l. IsNewKey (keys_of (λ k. Some k) b) (Some l)) before ps
new_key before [] fits = tt
new_key before (p ∷ ps) fits = (subst (AllByRecursion (λ k. k ≢ p)) (sym (keys_themselves before)) fits.0, new_key (before ++ p ∷ []) ps fits.1)

key_new : (before ps : List Location) → EachFits (λ b l. IsNewKey (keys_of (λ k. Some k) b) (Some l)) before ps → EachFits (λ b l. AllByRecursion (λ k. k ≢ l) b) before ps
key_new before [] fits = tt
key_new before (p ∷ ps) fits = (subst (AllByRecursion (λ k. k ≢ p)) (keys_themselves before) fits.0, key_new (before ++ p ∷ []) ps fits.1)

narrow : (slots : ℕ) (l : Location) → LocationFits (2 ^ 16) l → lies_within slots l ≡ true → LocationFits slots l
narrow slots (InRegister r) fits e = fits
narrow slots (InSlot s) fits e = ltb-true s slots e

widen : (slots : ℕ) → slots ≤ slot_limit → (l : Location) → LocationFits slots l → LocationFits (2 ^ 16) l × (lies_within slots l ≡ true)
widen slots few (InRegister r) fits = (fits, refl)
widen slots few (InSlot s) fits = (omega (arith, fits), lt-ltb s slots fits)

narrow_all : (slots : ℕ) (ps : List Location) → AllByRecursion (LocationFits (2 ^ 16)) ps → list_all (lies_within slots) ps ≡ true → AllByRecursion (LocationFits slots) ps
narrow_all slots [] fits e = tt
narrow_all slots (p ∷ ps) fits e = let both = and_parts (lies_within slots p) (list_all (lies_within slots) ps) e in (narrow slots p fits.0 both.0, narrow_all slots ps fits.1 both.1)

widen_all : (slots : ℕ) → slots ≤ slot_limit → (ps : List Location) → AllByRecursion (LocationFits slots) ps → AllByRecursion (LocationFits (2 ^ 16)) ps × (list_all (lies_within slots) ps ≡ true)
widen_all slots few [] fits = (tt, refl)
widen_all slots few (p ∷ ps) fits =
    let one = widen slots few p fits.0 in
    let rest = widen_all slots few ps fits.1 in
    ((one.0, rest.0), and_from (lies_within slots p) (list_all (lies_within slots) ps) one.1 rest.1)

-- what a frame fits is what a function's parameters and slots fit
abbrev pub FrameFits : List Location × ℕ → Type 0
FrameFits f = ParametersFit f.1 f.0 × (f.1 ≤ slot_limit)

abbrev ReadFits : List Location × ℕ → Type 0
ReadFits f = ((length f.0 ≤ parameter_limit) × EachFits ParameterFits [] f.0) × (f.1 < 2 ^ 16)

abbrev WithinFits : List Location × ℕ → Type 0
WithinFits f = ReadFits f × (list_all (lies_within f.1) f.0 ≡ true)

frame_fits : (f : List Location × ℕ) → WithinFits f → nat_le f.1 slot_limit ≡ true → FrameFits f
frame_fits f fits few =
    let split = both_each (λ b. LocationFits (2 ^ 16)) (λ b l. AllByRecursion (λ k. k ≢ l) b) [] f.0 fits.0.0.1 in (
      record {
        few = fits.0.0.0;
        each = narrow_all f.1 f.0 (each_fits (LocationFits (2 ^ 16)) [] f.0 split.0) fits.1;
        distinct = subst AreDistinct (keys_themselves f.0) (each_distinct (λ l. Some l) [] f.0 tt (new_key [] f.0 split.1));
      },
      leb-true f.1 slot_limit few,
    )

fits_frame : (f : List Location × ℕ) → FrameFits f → WithinFits f × (nat_le f.1 slot_limit ≡ true)
fits_frame f fits =
    let wide = widen_all f.1 fits.1 f.0 fits.0.each in
    let new = key_new [] f.0 (distinct_each (λ l. Some l) [] f.0 (subst AreDistinct (sym (keys_themselves f.0)) fits.0.distinct)) in
    ((((fits.0.few, each_both (λ b. LocationFits (2 ^ 16)) (λ b l. AllByRecursion (λ k. k ≢ l) b) [] f.0 (fits_each (LocationFits (2 ^ 16)) [] f.0 wide.0) new), omega (arith, fits.1)), wide.1), le-leb f.1 slot_limit fits.1)

pub frame_form : IsForm frame frame_text FrameFits
unfolding frame
frame_form =
    let parts = both_form parameters (locations_text) (λ ps. (length ps ≤ parameter_limit) × EachFits ParameterFits [] ps) parameters_form (λ ps. number w16) (λ ps. to_be_bytes w16) (λ ps n. n < 2 ^ 16) (λ ps fits. number16_form) in
    tested_form (λ (f : List Location × ℕ). nat_le f.1 slot_limit) TooLarge
    (tested_form (λ (f : List Location × ℕ). list_all (lies_within f.1) f.0) NotCanonical parts WithinFits (λ f fits within. (fits, within)) (λ f fits. fits))
    FrameFits frame_fits fits_frame
