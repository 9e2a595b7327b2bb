-- When what is known before an instruction is so.
use Rattle.std.specs.Prelude.{◌≡◌, ℕ, List, [], ◌∷◌, Option, Some, None, not, nat_eq, slice_index}
use Rattle.x86_syntax.specs.declared.condition.Condition.{Condition}
use Rattle.x86_state.specs.Tables.{condition_table}
use Rattle.native_lowering_definition.specs.Facts.{Facts}

-- a word that is known is the one that is defined
abbrev pub Knows : Option ℕ → Option ℕ → Type 0
Knows None v = Unit {0}
Knows (Some w) v = v ≡ Some w

abbrev pub KnowsEach : List (Option ℕ) → List (Option ℕ) → Type 0
KnowsEach [] vs = Unit {0}
KnowsEach (k ∷ ks) [] = ⊥
KnowsEach (k ∷ ks) (v ∷ vs) = Knows k v × KnowsEach ks vs

-- a register is not 0 exactly where the condition holds of what was compared last
abbrev pub Answers : Option (ℕ × Condition) → Option (ℕ × ℕ) → List ℕ → Type 0
Answers None flags words = Unit {0}
Answers (Some p) None words = ⊥
Answers (Some p) (Some q) words = condition_table p.1 q.0 q.1 ≡ not (nat_eq (slice_index words p.0) 0)

-- all that is known is so, of Linear's registers, the flags and native registers
pub record IsSo (facts : Facts) (registers : List (Option ℕ)) (flags : Option (ℕ × ℕ)) (words : List ℕ) : Type 0 where
  pub known : KnowsEach facts.words registers
  pub answers : Answers facts.flag flags words
