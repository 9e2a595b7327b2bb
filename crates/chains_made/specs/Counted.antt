-- How many of the offers are the optimisers': those that are not are baselines.
use Rattle.std.specs.Prelude.{◌≡◌, ℕ, ◌+◌, ◌<◌, ◌^◌, Bool, true, false, List, [], ◌∷◌}
use Rattle.constprop_check.specs.Baseline as constants
use Rattle.cse_check.specs.Baseline as expressions
use Rattle.alloc_check.specs.Baseline as allocation
use Rattle.linearize_check.specs.Baseline as order
use Rattle.chains.specs.declared.offering.Offers.{Offers}

abbrev pub one_if : Bool → ℕ
one_if true = 1
one_if false = 0

-- which of a function's offers are the optimisers'
pub record Marks : Type 0 where
  pub constants : Bool
  pub expressions : Bool
  pub allocation : Bool
  pub order : Bool

abbrev pub marked : Marks → ℕ
marked marks = one_if marks.constants + (one_if marks.expressions + (one_if marks.allocation + one_if marks.order))

-- an offer that is not marked is the baseline
pub record AreMarked (marks : Marks) (offers : Offers) : Type 0 where
  pub constants : marks.constants ≡ false → constants.IsBaseline offers.constants.input offers.constants.output offers.constants.certificate
  pub expressions : marks.expressions ≡ false → expressions.IsBaseline offers.expressions.input offers.expressions.output offers.expressions.certificate
  pub allocation : marks.allocation ≡ false → allocation.IsBaseline offers.allocation.input offers.allocation.output offers.allocation.certificate
  pub order : marks.order ≡ false → order.IsBaseline offers.order.input offers.order.output offers.order.certificate

-- function by function
abbrev pub AllMarked : List Marks → List Offers → Type 0
AllMarked [] [] = Unit {0}
AllMarked [] (o ∷ offers) = ⊥
AllMarked (m ∷ marks) [] = ⊥
AllMarked (m ∷ marks) (o ∷ offers) = AreMarked m o × AllMarked marks offers

abbrev pub all_marked : List Marks → ℕ
all_marked [] = 0
all_marked (m ∷ marks) = marked m + all_marked marks

-- so many more are counted, as long as a number of 64 bits counts them
abbrev pub Counts : ℕ → ℕ → ℕ → Type 0
Counts before after more = before + more < 2 ^ 64 → after ≡ before + more

-- what is counted of a function's offers, and of those of all functions, are the marked ones
pub record IsCounted (before after : ℕ) (offers : Offers) : Type 0 where
  pub marks : Marks
  pub are : AreMarked marks offers
  pub counts : Counts before after (marked marks)

pub record AreCounted (before after : ℕ) (offers : List Offers) : Type 0 where
  pub marks : List Marks
  pub are : AllMarked marks offers
  pub counts : Counts before after (all_marked marks)
