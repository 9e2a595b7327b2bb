-- Of what is left, the first, and what is left behind it.
use Rattle.std.proofs.Common.{◌≡◌, ℕ, ◌+◌, ◌-◌, ◌<◌, ◌≤◌, Bool, List, [], ◌∷◌, ◌++◌, length, get_or, drop, max, min, inl, inr, refl, sym, ap, ◌∙◌, arith}
use Rattle.std.specs.Prelude.{◌||◌}
use Rattle.std.specs.List.{list_any}
use Rattle.std.proofs.lemmas.List.{at_drop_more, at_drop_all, drop_all}
use Rattle.std.proofs.lemmas.Bool.{cases_lt}
use Rattle.locations.specs.declared.location.Location.{Location}
use Rattle.linear_language.specs.declared.instruction.Instruction.{Instruction}
use Rattle.linear_language.specs.Function.{arguments_of}
use Rattle.x86_syntax.specs.declared.instruction.Instruction.TheVariants.{Take, Keep}
use Rattle.x86_syntax.specs.declared.register.Register.{Register}
use Rattle.native_lowering_definition.specs.Blocks.{saves, restores}
use Rattle.native_lowering_definition.specs.Frames.{Frame, argument_cell, outs_of}
use Rattle.native_lowering_definition.specs.Locations.{register_of, passing}
use Rattle.native_lowering_definition.specs.Moving.{fetches, puts, keeps, takes, fetches_each, keeps_each, puts_each, takes_each}

one_more : (a j : ℕ) → a + j + 1 ≡ a + (j + 1)
one_more a j = omega arith

one_more_less : (j : ℕ) → 4 ≤ j → j - 4 + 1 ≡ j + 1 - 4
one_more_less j le = omega arith

pub saves_next : (first j d : ℕ) (rs : List ℕ) → j < length rs
    → saves (first + j) (drop j rs) ≡ (Keep (first + j) (register_of (get_or rs j d)) ∷ []) ++ saves (first + (j + 1)) (drop (j + 1) rs)
saves_next first j d rs below =
    at_drop_more (saves (first + j)) rs j d below
    ∙ ap (λ cell. Keep (first + j) (register_of (get_or rs j d)) ∷ saves cell (drop (j + 1) rs)) (one_more first j)

pub restores_next : (first j d : ℕ) (rs : List ℕ) → j < length rs
    → restores (first + j) (drop j rs) ≡ (Take (register_of (get_or rs j d)) (first + j) ∷ []) ++ restores (first + (j + 1)) (drop (j + 1) rs)
restores_next first j d rs below =
    at_drop_more (restores (first + j)) rs j d below
    ∙ ap (λ cell. Take (register_of (get_or rs j d)) (first + j) ∷ restores cell (drop (j + 1) rs)) (one_more first j)

module _ (frame : Frame) (ls : List Location) (j : ℕ) (d : Location) (there : j < length ls) where
  pub keeps_next : 4 ≤ j → keeps_each frame (j - 4) (drop j ls) ≡ keeps frame (j - 4) (get_or ls j d) ++ keeps_each frame (j + 1 - 4) (drop (j + 1) ls)
  keeps_next beyond =
      at_drop_more (keeps_each frame (j - 4)) ls j d there
      ∙ ap (λ cell. keeps frame (j - 4) (get_or ls j d) ++ keeps_each frame cell (drop (j + 1) ls)) (one_more_less j beyond)

  pub takes_next : 4 ≤ j → takes_each frame (j - 4) (drop j ls) ≡ takes frame (get_or ls j d) (argument_cell frame (j - 4)) ++ takes_each frame (j + 1 - 4) (drop (j + 1) ls)
  takes_next beyond =
      at_drop_more (takes_each frame (j - 4)) ls j d there
      ∙ ap (λ cell. takes frame (get_or ls j d) (argument_cell frame (j - 4)) ++ takes_each frame cell (drop (j + 1) ls)) (one_more_less j beyond)

  pub fetches_next : (r : Register) → j < 4 → fetches_each frame (drop j passing) (drop j ls) ≡ fetches frame (get_or passing j r) (get_or ls j d) ++ fetches_each frame (drop (j + 1) passing) (drop (j + 1) ls)
  fetches_next r few =
      at_drop_more (λ rs. fetches_each frame rs (drop j ls)) passing j r few
      ∙ at_drop_more (fetches_each frame (get_or passing j r ∷ drop (j + 1) passing)) ls j d there

  pub puts_next : (r : Register) → j < 4 → puts_each frame (drop j ls) (drop j passing) ≡ puts frame (get_or ls j d) (get_or passing j r) ++ puts_each frame (drop (j + 1) ls) (drop (j + 1) passing)
  puts_next r few =
      at_drop_more (λ ks. puts_each frame ks (drop j passing)) ls j d there
      ∙ at_drop_more (puts_each frame (get_or ls j d ∷ drop (j + 1) ls)) passing j r few

-- behind the last nothing is left
pub saves_end : (first j : ℕ) (rs : List ℕ) → length rs ≤ j → saves (first + j) (drop j rs) ≡ []
saves_end first j rs all = at_drop_all (saves (first + j)) rs j all

pub restores_end : (first j : ℕ) (rs : List ℕ) → length rs ≤ j → restores (first + j) (drop j rs) ≡ []
restores_end first j rs all = at_drop_all (restores (first + j)) rs j all

pub keeps_end : (frame : Frame) (cell j : ℕ) (ls : List Location) → length ls ≤ j → keeps_each frame cell (drop j ls) ≡ []
keeps_end frame cell j ls all = at_drop_all (keeps_each frame cell) ls j all

pub takes_end : (frame : Frame) (cell j : ℕ) (ls : List Location) → length ls ≤ j → takes_each frame cell (drop j ls) ≡ []
takes_end frame cell j ls all = at_drop_all (takes_each frame cell) ls j all

none_fetched : (frame : Frame) (rs : List Register) → fetches_each frame rs [] ≡ []
none_fetched frame [] = refl
none_fetched frame (r ∷ rs) = refl

none_put : (frame : Frame) (ls : List Location) → puts_each frame ls [] ≡ []
none_put frame [] = refl
none_put frame (l ∷ ls) = refl

-- no location is left, or no register
pub no_location_fetched : (frame : Frame) (j : ℕ) (ls : List Location) → length ls ≤ j → fetches_each frame (drop j passing) (drop j ls) ≡ []
no_location_fetched frame j ls all = ap (fetches_each frame (drop j passing)) (drop_all j ls all) ∙ none_fetched frame (drop j passing)

pub no_register_fetched : (frame : Frame) (j : ℕ) (ls : List Location) → 4 ≤ j → fetches_each frame (drop j passing) (drop j ls) ≡ []
no_register_fetched frame j ls all = ap (λ rs. fetches_each frame rs (drop j ls)) (drop_all j passing all)

pub no_location_put : (frame : Frame) (j : ℕ) (ls : List Location) → length ls ≤ j → puts_each frame (drop j ls) (drop j passing) ≡ []
no_location_put frame j ls all = ap (λ ks. puts_each frame ks (drop j passing)) (drop_all j ls all)

pub no_register_put : (frame : Frame) (j : ℕ) (ls : List Location) → 4 ≤ j → puts_each frame (drop j ls) (drop j passing) ≡ []
no_register_put frame j ls all = ap (puts_each frame (drop j ls)) (drop_all j passing all) ∙ none_put frame (drop j ls)

-- behind as many as pass in registers nothing is left
pub fetches_end : (frame : Frame) (j : ℕ) (ls : List Location) → min (length ls) 4 ≤ j → fetches_each frame (drop j passing) (drop j ls) ≡ []
fetches_end frame j ls all =
    elim (cases_lt j (length ls)) [
      | inl below ↦ no_register_fetched frame j ls (omega (arith, below, all))
      | inr past ↦ no_location_fetched frame j ls past
    ]

pub puts_end : (frame : Frame) (j : ℕ) (ls : List Location) → min (length ls) 4 ≤ j → puts_each frame (drop j ls) (drop j passing) ≡ []
puts_end frame j ls all =
    elim (cases_lt j (length ls)) [
      | inl below ↦ no_register_put frame j ls (omega (arith, below, all))
      | inr past ↦ no_location_put frame j ls past
    ]

-- the most of what is left
pub outs_next : (code : List Instruction) (j : ℕ) (i : Instruction) → j < length code → i ≡ get_or code j i → outs_of (drop j code) ≡ max (length (arguments_of i) - 4) (outs_of (drop (j + 1) code))
outs_next code j i below here =
    at_drop_more outs_of code j i below ∙ ap (λ x. max (length (arguments_of x) - 4) (outs_of (drop (j + 1) code))) (sym here)
