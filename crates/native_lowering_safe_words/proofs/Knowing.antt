-- The words that are known have 32 bits: they are constants of the code.
use Rattle.std.proofs.Common.{ℕ, ◌<◌, ◌^◌, Bool, true, false, List, Option, Some, None, subst}
use Rattle.std.specs.Prelude.{if◌then◌else◌}
use Rattle.std.specs.List.{list_any}
use Rattle.locations.specs.declared.location.Location.{Location}
use Rattle.locations.specs.declared.location.Location.TheVariants.{InRegister, InSlot}
use Rattle.machine.specs.Fits.{ActFits}
use Rattle.machine.specs.declared.act.Act.{Act}
use Rattle.machine.specs.declared.act.Act.TheVariants.{Constant, Operate, Load, Store, Put}
use Rattle.linear_language.specs.declared.instruction.Instruction.{Instruction}
use Rattle.linear_language.specs.declared.instruction.Instruction.TheVariants as l
use Rattle.linear_language.specs.Function.{InstructionFits}
use Rattle.x86_syntax.specs.declared.condition.Condition.{Condition}
use Rattle.native_lowering_definition.specs.Facts.{Facts, no_facts, after, after_act, after_move, after_test, answered}
use Rattle.native_lowering_definition.specs.Lowering.{names, known_at}
use Rattle.native_lowering_ranges.specs.Range.{AreWords}
use Rattle.native_lowering_ranges.proofs.Words.{IsWord, same_some, words_set, none_words}

unknown : IsWord None
unknown = λ x e. cc

just : (w : ℕ) → w < 2 ^ 32 → IsWord (Some w)
just w small = λ x e. subst (λ y. y < 2 ^ 32) (same_some w x e) small

module _ (facts : Facts) (words : AreWords facts.words) where
  behind_act : (act : Act) → ActFits act → AreWords (after_act act facts).words
  behind_act (Constant target word) fits = words_set facts.words target (Some word) words (just word fits.1)
  behind_act (Operate op target arguments) fits = words_set facts.words target None words unknown
  behind_act (Load target global index) fits = words_set facts.words target None words unknown
  behind_act (Store global index source) fits = words
  behind_act (Put source None) fits = words
  behind_act (Put source (Some r)) fits = words_set facts.words r None words unknown

  behind_move : (target : Location) → AreWords (after_move target facts).words
  behind_move (InRegister r) = words_set facts.words r None words unknown
  behind_move (InSlot s) = words

  behind_test : (answer : Option Condition) → AreWords (after_test answer facts).words
  behind_test None = words
  behind_test (Some condition) = words

  -- behind an instruction
  pub known_behind : (slots : ℕ) (i : Instruction) → InstructionFits slots i → AreWords (after i facts).words
  known_behind slots (l.Do act) fits = behind_act act fits
  known_behind slots (l.Copy step) fits = behind_move step.target
  known_behind slots (l.Call function arguments target) fits = none_words 8
  known_behind slots (l.Branch test label) fits = behind_test (answered test facts)
  known_behind slots (l.Return value) fits = words
  known_behind slots (l.Label label) fits = words
  known_behind slots (l.Goto label) fits = words

  at_label : (b : Bool) → AreWords (if b then no_facts else facts).words
  at_label true = none_words 8
  at_label false = words

  -- at one
  pub known_there : (code : List Instruction) (i : Instruction) → AreWords (known_at code facts i).words
  known_there code (l.Do act) = words
  known_there code (l.Copy step) = words
  known_there code (l.Call function arguments target) = words
  known_there code (l.Branch test label) = words
  known_there code (l.Return value) = words
  known_there code (l.Label label) = at_label (list_any (names label) code)
  known_there code (l.Goto label) = words
