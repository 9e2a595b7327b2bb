-- What locations, arguments, tests and plain instructions are read back from, and that their words are in range.
use Rattle.std.proofs.Common.{◌≡◌, ℕ, ◌<◌, ◌≤◌, ◌^◌, List, [], ◌∷◌, map, Option, Some, None, refl, sym, ap, ◌∙◌, arith}
use Rattle.std.specs.List.{AllByRecursion}
use Rattle.locations.specs.declared.location.Location.{Location}
use Rattle.locations.specs.declared.location.Location.TheVariants.{InRegister, InSlot}
use Rattle.machine.specs.declared.arguments.Arguments.{Arguments}
use Rattle.machine.specs.declared.arguments.Arguments.TheVariants.{One, Two}
use Rattle.machine.specs.declared.act.Act.{Act}
use Rattle.machine.specs.declared.act.Act.TheVariants as act
use Rattle.machine.specs.declared.test.Test.{Test}
use Rattle.machine.specs.Fits.{ActFits, TestFits, ArgumentsFit, ValueFits, LocationFits, TargetFits}
use Rattle.text_keys.specs.declared.word.Letter.TheVariants as letter
use Rattle.text_keys.specs.declared.word.Word.{Word}
use Rattle.text_keys.specs.declared.word.Word.TheVariants.{Lettered, Number, Named}
use Rattle.text_keys.specs.Words.{WordFits, target_words}
use Rattle.text_keys.proofs.Names.{ParameterFits}
use Rattle.text_keys.proofs.Reading.{number_of}
use Rattle.text_common.specs.Acts.{location_word, argument_words, test_words, value_words, act_left, act_right}

-- ---- read back

abbrev pub location_of : Word → Location
location_of (Lettered letter.Slot n) = InSlot n
location_of (Lettered l n) = InRegister n
location_of (Number n) = InRegister n
location_of (Named k) = InRegister 0

pub location_again : (l : Location) → location_of (location_word l) ≡ l
location_again (InRegister r) = refl
location_again (InSlot s) = refl

pub location_tells : (l m : Location) → location_word l ≡ location_word m → l ≡ m
location_tells l m e = sym (location_again l) ∙ ap location_of e ∙ location_again m

pub locations_again : (ls : List Location) → map location_of (map location_word ls) ≡ ls
locations_again [] = refl
locations_again (l ∷ ls) = λ i. location_again l i ∷ locations_again ls i

-- registers, as many as stand there
abbrev pub arguments_of : List Word → Arguments
arguments_of (Lettered l a ∷ Lettered m b ∷ ws) = Two a b
arguments_of (Lettered l a ∷ ws) = One a
arguments_of ws = One 0

-- the words behind registers
abbrev pub behind_arguments : List Word → List Word
behind_arguments (Lettered l a ∷ Lettered m b ∷ ws) = ws
behind_arguments (Lettered l a ∷ ws) = ws
behind_arguments ws = ws

abbrev pub value_of : List Word → Option ℕ
value_of [] = None
value_of (w ∷ ws) = Some (number_of w)

pub value_again : (v : Option ℕ) → value_of (value_words v) ≡ v
value_again None = refl
value_again (Some r) = refl

-- ---- in range

abbrev small : ℕ → Type 0
small n = n < 2 ^ 64

pub location_fits : (slots : ℕ) → slots ≤ 2 ^ 16 → (l : Location) → LocationFits slots l → WordFits (location_word l)
location_fits slots few (InRegister r) fits = omega (arith, fits)
location_fits slots few (InSlot s) fits = omega (arith, fits)

pub locations_fit : (slots : ℕ) → slots ≤ 2 ^ 16 → (ls : List Location) → AllByRecursion (LocationFits slots) ls → AllByRecursion WordFits (map location_word ls)
locations_fit slots few [] fits = tt
locations_fit slots few (l ∷ ls) fits = (location_fits slots few l fits.0, locations_fit slots few ls fits.1)

pub parameters_fit : (slots : ℕ) → slots ≤ 2 ^ 16 → (ls : List Location) → AllByRecursion (LocationFits slots) ls → AllByRecursion (ParameterFits location_word) ls
parameters_fit slots few [] fits = tt
parameters_fit slots few (InRegister r ∷ ls) fits = ((location_fits slots few (InRegister r) fits.0, tt), parameters_fit slots few ls fits.1)
parameters_fit slots few (InSlot s ∷ ls) fits = ((location_fits slots few (InSlot s) fits.0, tt), parameters_fit slots few ls fits.1)

pub place_fits : (slots : ℕ) → slots ≤ 2 ^ 16 → (t : Option Location) → TargetFits slots t → AllByRecursion WordFits (target_words location_word t)
place_fits slots few None fits = tt
place_fits slots few (Some l) fits = (location_fits slots few l fits, (tt, tt))

pub value_fits : (v : Option ℕ) → ValueFits v → AllByRecursion WordFits (value_words v)
value_fits None fits = tt
value_fits (Some r) fits = (omega (arith, fits), tt)

arguments_fit : (count : ℕ) (a : Arguments) → ArgumentsFit count a → AllByRecursion WordFits (argument_words a)
arguments_fit count (One a) fits = (omega (arith, fits.1), tt)
arguments_fit count (Two a b) fits = (omega (arith, fits.1), (omega (arith, fits.2), tt))

pub test_fits : (t : Test) → TestFits t → AllByRecursion WordFits (test_words t)
test_fits t fits = (tt, arguments_fit _ t.arguments fits)

pub act_left_fits : (a : Act) → ActFits a → AllByRecursion WordFits (act_left a)
act_left_fits (act.Constant target word) fits = (omega (arith, fits.0), (tt, tt))
act_left_fits (act.Operate o target arguments) fits = (omega (arith, fits.0), (tt, tt))
act_left_fits (act.Load target global index) fits = (omega (arith, fits.0), (tt, tt))
act_left_fits (act.Store global index source) fits = tt
act_left_fits (act.Put source None) fits = tt
act_left_fits (act.Put source (Some r)) fits = (omega (arith, fits.1), (tt, tt))

pub act_right_fits : (a : Act) → ActFits a → AllByRecursion WordFits (act_right a)
act_right_fits (act.Constant target word) fits = (tt, (omega (arith, fits.1), tt))
act_right_fits (act.Operate o target arguments) fits = (tt, arguments_fit _ arguments fits.1)
act_right_fits (act.Load target global index) fits = (tt, (omega (arith, fits.1), (omega (arith, fits.2), tt)))
act_right_fits (act.Store global index source) fits = (tt, (omega (arith, fits.0), (omega (arith, fits.1), (omega (arith, fits.2), tt))))
act_right_fits (act.Put source target) fits = (tt, (omega (arith, fits.0), tt))
