-- One of two actions, by a condition.
use Rattle.std.proofs.Common.{◌≡◌, ℕ, List, Option, Some, None, sym, ap, ◌∙◌}
use Rattle.std.specs.Option.{option_or}
use Rattle.c_program.specs.Trees.{TermTree}
use Rattle.c_program.specs.State.{State, word}
use Rattle.c_program.specs.Meaning.{Outcome, branches}
use Rattle.c_faults.specs.declared.gap.Gap.{Gap}
use Rattle.c_faults.specs.declared.fault.Fault.{Fault}
use Rattle.c_faults.specs.Gaps.{by_word}
use Rattle.c_faults.specs.Changes.{gap_in}
use Rattle.c_faults.specs.Frames.{Frame, told}
use Rattle.c_faults_step.proofs.Levels.{word_none, word_zero, word_more, branch_zero, branch_more}

pub choice_zero : (s : State) (c : TermTree) (none other chosen : Option Fault) (a b : Outcome) (rest : Outcome → Option Fault) → word c s ≡ Some 0 →
    option_or other (rest b) ≡ option_or (by_word (word c s) none other chosen) (rest (branches s (word c s) a b))
choice_zero s c none other chosen a b rest is =
    sym
    (ap (λ x. option_or x (rest (branches s (word c s) a b))) (word_zero (word c s) none other chosen is)
    ∙ ap (λ o. option_or other (rest o)) (branch_zero s (word c s) a b is))

pub choice_more : (s : State) (c : TermTree) (none other chosen : Option Fault) (a b : Outcome) (rest : Outcome → Option Fault) (w : ℕ) → word c s ≡ Some w →
    (w ≡ 0 → ⊥) → option_or chosen (rest a) ≡ option_or (by_word (word c s) none other chosen) (rest (branches s (word c s) a b))
choice_more s c none other chosen a b rest w is more =
    sym
    (ap (λ x. option_or x (rest (branches s (word c s) a b))) (word_more (word c s) w none other chosen is more)
    ∙ ap (λ o. option_or chosen (rest o)) (branch_more s (word c s) w a b is more))

pub choice_wrong : (f : Frame) (ps : List ℕ) (s : State) (c : TermTree) (other chosen : Option Fault) (a b : Outcome) (rest : Outcome → Option Fault) (g : Gap) →
    word c s ≡ None → gap_in ps c s ≡ Some g →
    told f (Some g) ≡ option_or (by_word (word c s) (told f (gap_in ps c s)) other chosen) (rest (branches s (word c s) a b))
choice_wrong f ps s c other chosen a b rest g none is =
    sym
    (ap (λ x. option_or x (rest (branches s (word c s) a b)))
    (word_none (word c s) (told f (gap_in ps c s)) other chosen none ∙ ap (told f) is))
