-- What a cause says of the state: the cause of each gap holds where it is found.
use Rattle.std.specs.Prelude.{◌≡◌, ℕ, List, [], ◌∷◌, Option, Some, None, slice_index_or}
use Rattle.c_program.specs.Trees.{TermTree}
use Rattle.c_program.specs.Values.{Variables, computed, cell_of}
use Rattle.c_faults.specs.declared.cause.Cause.{Cause}
use Rattle.c_faults.specs.declared.cause.Cause.TheVariants.{Unset, Past, One, Two, NoReturn, Malformed}
use Rattle.c_faults.specs.declared.gap.Gap.{Gap}
use Rattle.c_faults.specs.Gaps.{gap}

-- a local has no word, a global has no such cell, an operator has no value for its words; the others are no expression's
abbrev pub Holds : Variables → Cause → Type 0
Holds v Unset = (n : ℕ) × (slice_index_or v.locals n None ≡ None)
Holds v (Past g i) = cell_of v.globals g i ≡ None
Holds v (One o x) = computed o (x ∷ []) ≡ None
Holds v (Two o x y) = computed o (x ∷ y ∷ []) ≡ None
Holds v NoReturn = ⊥
Holds v Malformed = ⊥

abbrev pub HoldsIn : Variables → Option Gap → Type 0
HoldsIn v None = Unit {0}
HoldsIn v (Some g) = Holds v g.cause

-- The cause of an expression's gap holds.
abbrev pub CausesHold : Type 0
CausesHold = (ps : List ℕ) (v : Variables) (e : TermTree) → HoldsIn v (gap ps v e)
