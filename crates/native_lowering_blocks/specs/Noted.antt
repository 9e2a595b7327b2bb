-- A flag for each label that can be written, set where an instruction is it, or names it.
use Rattle.std.specs.Prelude.{◌≡◌, ℕ, ◌<◌, ◌^◌, ◌||◌, Bool, false, List, length, slice_index_or, Option}
use Rattle.std.specs.List.{list_any}
use Rattle.linear_language.specs.declared.instruction.Instruction.{Instruction}
use Rattle.linear_language.specs.Labels.{label_of, is_label}
use Rattle.native_lowering_blocks.specs.Labels.{named_by}

-- some instruction is the label, or names it
abbrev pub is_there : ℕ → List Instruction → Bool
is_there l code = list_any (λ i. is_label l (label_of i)) code

abbrev pub is_named : ℕ → List Instruction → Bool
is_named l code = list_any (λ i. is_label l (named_by i)) code

-- no flag is set
pub record AreClear (flags : List Bool) : Type 0 where
  pub full : length flags ≡ 2 ^ 16
  pub each : (l : ℕ) → l < 2 ^ 16 → slice_index_or flags l false ≡ false

-- the flags of so many labels are what is found in the whole code, but for what is found in the rest
pub record AreNoted (found : ℕ → List Instruction → Bool) (rest whole : List Instruction) (flags : List Bool) : Type 0 where
  pub full : length flags ≡ 2 ^ 16
  pub each : (l : ℕ) → l < 2 ^ 16 → (slice_index_or flags l false || found l rest) ≡ found l whole

-- one label more is set, if there is one
pub record Notes (label : Option ℕ) (before after : List Bool) : Type 0 where
  pub full : length before ≡ 2 ^ 16 → length after ≡ 2 ^ 16
  pub each : (l : ℕ) → length before ≡ 2 ^ 16 → l < 2 ^ 16 → slice_index_or after l false ≡ (slice_index_or before l false || is_label l label)
