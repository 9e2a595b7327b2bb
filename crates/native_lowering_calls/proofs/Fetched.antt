-- The first arguments in the registers in which they pass.
use Rattle.std.proofs.Common.{◌≡◌, ◌≢◌, ℕ, ◌<◌, ◌≤◌, List, [], ◌∷◌, refl, sym, subst, ◌∙◌, arith}
use Rattle.std.specs.Prelude.{slice_index}
use Rattle.std.specs.List.{AllByRecursion}
use Rattle.std.proofs.lemmas.List.{get_or-set_same, get_or-set_other}
use Rattle.locations.specs.declared.location.Location.{Location}
use Rattle.machine.specs.Calls.{values_of}
use Rattle.machine.specs.Data.{Data, value_at}
use Rattle.linear_language.specs.Function.{FunctionData}
use Rattle.x86_syntax.specs.Registers.{number_of}
use Rattle.x86_syntax.specs.declared.register.Register.{Register}
use Rattle.x86_state.specs.Registers.{word_in, with_word}
use Rattle.native_lowering_definition.specs.Locations.{passing}
use Rattle.native_lowering_relation.specs.Agreeing.{Agrees}
use Rattle.native_lowering_relation.specs.Standing.{Held, Holds}
use Rattle.native_lowering_runs.proofs.Held.{scratch_written}
use Rattle.native_lowering_passing.specs.Moved.{word_at_location, words_fetched}
use Rattle.native_lowering_calls.specs.Given.{AgreeIn}
use Rattle.native_lowering_calls.proofs.Lost.{location_agrees}

-- scratch registers, no two the same
abbrev IsScratch : Register → Type 0
IsScratch r = (8 ≤ number_of r) × (number_of r < 13)

abbrev AreApart : List Register → Type 0
AreApart [] = Unit {0}
AreApart (r ∷ rs) = AllByRecursion (λ q. number_of r ≢ number_of q) rs × AreApart rs

passing_scratch : AllByRecursion IsScratch passing
unfolding number_of
passing_scratch = ((omega arith, omega arith), ((omega arith, omega arith), ((omega arith, omega arith), ((omega arith, omega arith), tt))))

passing_apart : AreApart passing
unfolding number_of
passing_apart = (
  ((λ e. omega (arith, e)), ((λ e. omega (arith, e)), ((λ e. omega (arith, e)), tt))),
  (
    ((λ e. omega (arith, e)), ((λ e. omega (arith, e)), tt)),
    (
      ((λ e. omega (arith, e)), tt),
      (tt, tt),
    ),
  ),
)

fetched_other : (rs : List Register) (ls : List Location) (words : List ℕ) (held : Held) (k : ℕ) → AllByRecursion (λ q. k ≢ number_of q) rs
    → slice_index (words_fetched rs ls words held) k ≡ slice_index words k
fetched_other [] ls words held k apart = refl
fetched_other (r ∷ rs) [] words held k apart = refl
fetched_other (r ∷ rs) (l ∷ ls) words held k apart = fetched_other rs ls (with_word r (word_at_location l words held) words) held k apart.1
    ∙ get_or-set_other words (number_of r) k (word_at_location l words held) 0 apart.0

all_apart : (rs : List Register) (k : ℕ) → k < 8 → AllByRecursion IsScratch rs → AllByRecursion (λ q. k ≢ number_of q) rs
all_apart [] k low scratch = tt
all_apart (r ∷ rs) k low scratch = ((λ e. omega (arith, e, low, scratch.0.0)), all_apart rs k low scratch.1)

-- no register of Linear's is changed
pub fetched_low : (ls : List Location) (words : List ℕ) (held : Held) (k : ℕ) → k < 8 → slice_index (words_fetched passing ls words held) k ≡ slice_index words k
fetched_low ls words held k low = fetched_other passing ls words held k (all_apart passing k low passing_scratch)

module _ (f : FunctionData) (d : Data) (held : Held) where
  each_holds : (rs : List Register) (ls : List Location) (words : List ℕ) → AllByRecursion IsScratch rs → Holds f d.registers d.slots words held → Holds f d.registers d.slots (words_fetched rs ls words held) held
  each_holds [] ls words scratch holds = holds
  each_holds (r ∷ rs) [] words scratch holds = holds
  each_holds (r ∷ rs) (l ∷ ls) words scratch holds =
      let w = word_at_location l words held in
      each_holds rs ls (with_word r w words) scratch.1 (scratch_written f d.registers d.slots words held holds (number_of r) w scratch.0.0)

  each_given : (rs : List Register) (ls : List Location) (words : List ℕ) → AllByRecursion IsScratch rs → AreApart rs → Holds f d.registers d.slots words held
      → AgreeIn rs (values_of ls d) (words_fetched rs ls words held)
  each_given [] ls words scratch apart holds = tt
  each_given (r ∷ rs) [] words scratch apart holds = tt
  each_given (r ∷ rs) (l ∷ ls) words scratch apart holds =
      let w = word_at_location l words held in
      let words' = with_word r w words in
      let is_it : word_in r (words_fetched rs ls words' held) ≡ w =
      fetched_other rs ls words' held (number_of r) apart.0 ∙ get_or-set_same words (number_of r) w 0 (omega (arith, scratch.0.1, holds.thirteen)) in (
        subst (Agrees (value_at l d)) (sym is_it) (location_agrees f d words held holds l),
        each_given rs ls words' scratch.1 apart.1 (scratch_written f d.registers d.slots words held holds (number_of r) w scratch.0.0),
      )

  pub fetched_holds : (ls : List Location) (words : List ℕ) → Holds f d.registers d.slots words held → Holds f d.registers d.slots (words_fetched passing ls words held) held
  fetched_holds ls words holds = each_holds passing ls words passing_scratch holds

  pub fetched_given : (ls : List Location) (words : List ℕ) → Holds f d.registers d.slots words held → AgreeIn passing (values_of ls d) (words_fetched passing ls words held)
  fetched_given ls words holds = each_given passing ls words passing_scratch passing_apart holds
