-- A flag for each label that can be written, set where the label stands.
use Rattle.std.specs.Prelude.{◌≡◌, ℕ, ◌<◌, ◌^◌, Bool, false, List, length, slice_index_or}
use Rattle.linear_language.specs.Reading.{stands}

pub record Flags (flags : List Bool) (labels : List ℕ) : Type 0 where
  pub full : length flags ≡ 2 ^ 16
  pub each : (l : ℕ) → l < 2 ^ 16 → slice_index_or flags l false ≡ stands l labels
