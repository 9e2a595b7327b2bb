-- How bounds of runs are said: by a number, or by the word for none.
use Rattle.std.specs.Prelude.{◌≡◌, List, Option, None, Some, IfSome, IsNone, true}
use Rattle.std.proofs.Common.{ap, inl, inr, refl, subst, sym, ◌∙◌}
use Rattle.clap.specs.Words.{HasKind, Text, fault_of, is_simple, is_simple_and_free, kind_of}
use Rattle.clap.specs.declared.error.Error.{Error}
use Rattle.cfarm_command_line_tasks.specs.declared.choices.Bounds.{Bounds}
use Rattle.cfarm_command_line_tasks.specs.declared.choices.Bounds.TheVariants.{Counted, Unbounded}
use Rattle.cfarm_command_line_tasks.specs.declared.choices.Choices.{Choices}
use Rattle.cfarm_command_line_tasks.specs.declared.task.Asked.{Asked}
use Rattle.cfarm_command_line_tasks.specs.Words.{Answers, AreRefusedRightly, AreRight, AsksFor, AsksNothing, IsRefusedRightly, IsWrong, farm}
use Rattle.cfarm_command_line.specs.Told.{IsTold}

-- so said, the program is one whose words `clap` speaks of
pub simple : (bounds : Bounds) (choices : Choices) → is_simple (farm bounds choices) ≡ true
simple Counted choices = refl
simple Unbounded choices = refl

pub free : (bounds : Bounds) (choices : Choices) → is_simple_and_free (farm bounds choices) ≡ true
free Counted choices = refl
free Unbounded choices = refl

module _ (choices : Choices) (words : List Text) where
  pub answers_by : (bounds : Bounds) (asked : Option Asked) → AreRight bounds choices words → IfSome asked (AsksFor bounds choices words)
      → (IsNone asked → AsksNothing bounds choices words) → Answers choices words asked
  answers_by bounds None right asks nothing = (bounds, (right, nothing refl))
  answers_by bounds (Some asked) right asks nothing = (bounds, (right, asks))

  pub wrong_by : (counted unbounded told : Error) → IsTold counted unbounded told → HasKind (fault_of (farm Counted choices) words) counted
      → HasKind (fault_of (farm Unbounded choices) words) unbounded → IsWrong choices words told
  wrong_by counted unbounded told (inl first) one two = (Counted, subst (HasKind (fault_of (farm Counted choices) words)) (sym first.0) one)
  wrong_by counted unbounded told (inr second) one two = (Unbounded, subst (HasKind (fault_of (farm Unbounded choices) words)) (sym second.0) two)

  pub refused_by : (counted unbounded told : Error) → IsTold counted unbounded told → IsRefusedRightly Counted choices words counted
      → IsRefusedRightly Unbounded choices words unbounded → AreRefusedRightly choices words told
  refused_by counted unbounded told (inl first) one two Counted = λ taken. ap kind_of first.0 ∙ one taken
  refused_by counted unbounded told (inl first) one two Unbounded = λ taken. absurd (first.1 (two taken))
  refused_by counted unbounded told (inr (same, inl spent)) one two bounds = λ taken. ap kind_of same ∙ spent
  refused_by counted unbounded told (inr (same, inr other)) one two Counted = λ taken. absurd (other (one taken))
  refused_by counted unbounded told (inr (same, inr other)) one two Unbounded = λ taken. ap kind_of same ∙ two taken
