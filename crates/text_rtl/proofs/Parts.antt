-- What registers, arguments, tests and plain instructions are read back from, and that their words are in range.
use Rattle.std.proofs.Common.{ℕ, ◌≤◌, ◌^◌, List, [], ◌∷◌, map, Option, Some, None, arith}
use Rattle.std.specs.List.{AllByRecursion}
use Rattle.rtl_acts.specs.declared.arguments.Arguments.{Arguments}
use Rattle.rtl_acts.specs.declared.arguments.Arguments.TheVariants.{One, Two}
use Rattle.rtl_acts.specs.declared.act.Act.{Act}
use Rattle.rtl_acts.specs.declared.act.Act.TheVariants as act
use Rattle.rtl_acts.specs.declared.test.Test.{Test}
use Rattle.rtl_acts.specs.Fits.{ActFits, TestFits, ArgumentsFit, TargetFits, RegisterFits}
use Rattle.text_keys.specs.declared.word.Word.{Word}
use Rattle.text_keys.specs.declared.word.Word.TheVariants.{Lettered}
use Rattle.text_keys.specs.Words.{WordFits, target_words}
use Rattle.text_keys.proofs.Names.{ParameterFits}
use Rattle.text_rtl.specs.Acts.{register_word, argument_words, test_words, value_words, act_target, act_right}

-- registers, as many as stand there
abbrev pub arguments_of : List Word → Arguments
arguments_of (Lettered l a ∷ Lettered m b ∷ ws) = Two a b
arguments_of (Lettered l a ∷ ws) = One a
arguments_of ws = One 0

abbrev pub registers_in : List Word → List ℕ
registers_in (Lettered l n ∷ ws) = n ∷ registers_in ws
registers_in ws = []

abbrev pub behind_registers : List Word → List Word
behind_registers (Lettered l n ∷ ws) = behind_registers ws
behind_registers ws = ws

-- ---- in range

pub registers_fit : (registers : ℕ) → registers ≤ 2 ^ 16 → (rs : List ℕ) → AllByRecursion (RegisterFits registers) rs → AllByRecursion WordFits (map register_word rs)
registers_fit registers few [] fits = tt
registers_fit registers few (r ∷ rs) fits = (omega (arith, fits.0), registers_fit registers few rs fits.1)

pub parameters_fit : (registers : ℕ) → registers ≤ 2 ^ 16 → (rs : List ℕ) → AllByRecursion (RegisterFits registers) rs → AllByRecursion (ParameterFits register_word) rs
parameters_fit registers few [] fits = tt
parameters_fit registers few (r ∷ rs) fits = ((omega (arith, fits.0), tt), parameters_fit registers few rs fits.1)

pub target_fits : (registers : ℕ) → registers ≤ 2 ^ 16 → (t : Option ℕ) → TargetFits registers t → AllByRecursion WordFits (target_words register_word t)
target_fits registers few None fits = tt
target_fits registers few (Some r) fits = (omega (arith, fits), (tt, tt))

pub value_fits : (registers : ℕ) → registers ≤ 2 ^ 16 → (v : Option ℕ) → TargetFits registers v → AllByRecursion WordFits (value_words v)
value_fits registers few None fits = tt
value_fits registers few (Some r) fits = (omega (arith, fits), tt)

arguments_fit : (registers : ℕ) → registers ≤ 2 ^ 16 → (count : ℕ) (a : Arguments) → ArgumentsFit registers count a → AllByRecursion WordFits (argument_words a)
arguments_fit registers few count (One a) fits = (omega (arith, fits.1), tt)
arguments_fit registers few count (Two a b) fits = (omega (arith, fits.1), (omega (arith, fits.2), tt))

pub test_fits : (registers : ℕ) → registers ≤ 2 ^ 16 → (t : Test) → TestFits registers t → AllByRecursion WordFits (test_words t)
test_fits registers few t fits = (tt, arguments_fit registers few _ t.arguments fits)

target_is : (registers : ℕ) (a : Act) → ActFits registers a → TargetFits registers (act_target a)
target_is registers act.Nop fits = tt
target_is registers (act.Constant target word) fits = fits.0
target_is registers (act.Move target source) fits = fits.0
target_is registers (act.Operate o target arguments) fits = fits.0
target_is registers (act.Load target global index) fits = fits.0
target_is registers (act.Store global index source) fits = tt
target_is registers (act.Put source target) fits = fits.1

pub act_left_fits : (registers : ℕ) → registers ≤ 2 ^ 16 → (a : Act) → ActFits registers a → AllByRecursion WordFits (target_words register_word (act_target a))
act_left_fits registers few a fits = target_fits registers few (act_target a) (target_is registers a fits)

pub act_right_fits : (registers : ℕ) → registers ≤ 2 ^ 16 → (a : Act) → ActFits registers a → AllByRecursion WordFits (act_right a)
act_right_fits registers few act.Nop fits = (tt, tt)
act_right_fits registers few (act.Constant target word) fits = (tt, (omega (arith, fits.1), tt))
act_right_fits registers few (act.Move target source) fits = (tt, (omega (arith, fits.1), tt))
act_right_fits registers few (act.Operate o target arguments) fits = (tt, arguments_fit registers few _ arguments fits.1)
act_right_fits registers few (act.Load target global index) fits = (tt, (omega (arith, fits.1), (omega (arith, fits.2), tt)))
act_right_fits registers few (act.Store global index source) fits = (tt, (omega (arith, fits.0), (omega (arith, fits.1), (omega (arith, fits.2), tt))))
act_right_fits registers few (act.Put source target) fits = (tt, (omega (arith, fits.0), tt))
