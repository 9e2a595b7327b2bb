-- What a branch asks, and what native code asks for it.
use Rattle.std.proofs.Common.{◌≡◌, ℕ, Bool, [], ◌∷◌, Option, Some, None, refl, arith}
use Rattle.std.specs.Option.{option_map}
use Rattle.ints.specs.CondTable.{cond_table}
use Rattle.ints.specs.Conditions.{cond_argument_count_of}
use Rattle.ints.specs.declared.conditions.Cond.{Cond}
use Rattle.ints.specs.declared.conditions.Cond.TheVariants.{Nz, Eq, Ne, LtS, LtU, LeS, LeU}
use Rattle.machine.specs.Acts.{pair_of}
use Rattle.machine.specs.declared.arguments.Arguments.TheVariants.{Two}
use Rattle.x86_state.specs.Tables.{condition_table}
use Rattle.native_lowering_definition.specs.Blocks.{Around, tests, jumps_if}
use Rattle.native_lowering_definition.specs.Facts.{Facts, known, answered_for}
use Rattle.native_lowering_definition.specs.Kinds.{condition_of}
use Rattle.native_lowering_definition.specs.Operating.{compare}
use Rattle.native_lowering_numbers.proofs.Asked.{eq_branches, ne_branches, less_branches, below_branches, less_or_equal_branches, below_or_equal_branches}

-- ---- the words that are asked of

pub one_word : (c : Cond) (o : Option ℕ) (answer : Bool) → option_map (cond_table c) (option_map (λ x. x ∷ []) o) ≡ Some answer → (x : ℕ) × (o ≡ Some x) × (cond_table c (x ∷ []) ≡ answer)
one_word c None answer e = cc
one_word c (Some x) answer e = let same : cond_table c (x ∷ []) ≡ answer = cc in (x, refl, same)

pub two_words : (c : Cond) (o q : Option ℕ) (answer : Bool) → option_map (cond_table c) (pair_of o q) ≡ Some answer
    → (x : ℕ) × (y : ℕ) × (o ≡ Some x) × (q ≡ Some y) × (cond_table c (x ∷ y ∷ []) ≡ answer)
two_words c None q answer e = cc
two_words c (Some x) None answer e = cc
two_words c (Some x) (Some y) answer e = let same : cond_table c (x ∷ y ∷ []) ≡ answer = cc in (x, y, refl, refl, same)

-- ---- conditions of two words

pub asks : (c : Cond) (x y : ℕ) → cond_argument_count_of c ≡ 2 → cond_table c (x ∷ y ∷ []) ≡ condition_table (condition_of c) x y
unfolding cond_argument_count_of
asks Nz x y two = absurd (omega (arith, two))
asks Eq x y two = eq_branches x y
asks Ne x y two = ne_branches x y
asks LtS x y two = less_branches x y
asks LtU x y two = below_branches x y
asks LeS x y two = less_or_equal_branches x y
asks LeU x y two = below_or_equal_branches x y

pub tests_two : (around : Around) (facts : Facts) (c : Cond) (a b label : ℕ) → cond_argument_count_of c ≡ 2
    → tests around facts c (Two a b) label ≡ compare a b (known b facts) ∷ jumps_if around (condition_of c) label ∷ []
unfolding cond_argument_count_of
tests_two around facts Nz a b label two = absurd (omega (arith, two))
tests_two around facts Eq a b label two = refl
tests_two around facts Ne a b label two = refl
tests_two around facts LtS a b label two = refl
tests_two around facts LtU a b label two = refl
tests_two around facts LeS a b label two = refl
tests_two around facts LeU a b label two = refl

pub two_not_known : (c : Cond) (a b : ℕ) (facts : Facts) → answered_for c (Two a b) facts ≡ None
two_not_known Nz a b facts = refl
two_not_known Eq a b facts = refl
two_not_known Ne a b facts = refl
two_not_known LtS a b facts = refl
two_not_known LtU a b facts = refl
two_not_known LeS a b facts = refl
two_not_known LeU a b facts = refl

-- only that a word is not 0 is asked of one
pub asks_one : (c : Cond) → cond_argument_count_of c ≡ 1 → c ≡ Nz
unfolding cond_argument_count_of
asks_one Nz one = refl
asks_one Eq one = absurd (omega (arith, one))
asks_one Ne one = absurd (omega (arith, one))
asks_one LtS one = absurd (omega (arith, one))
asks_one LtU one = absurd (omega (arith, one))
asks_one LeS one = absurd (omega (arith, one))
asks_one LeU one = absurd (omega (arith, one))
