-- Words and globals of a run that are in range.
use Rattle.std.specs.Prelude.{◌≡◌, ℕ, ◌<◌, ◌^◌, List, length, Option, Some, None, slice_get, slice_index_or}
use Rattle.std.specs.Option.{option_map}
use Rattle.lang_base.specs.declared.program.Global.{Global}

-- each that is defined has 32 bits
abbrev pub AreWords : List (Option ℕ) → Type 0
AreWords vs = (r x : ℕ) → slice_index_or vs r None ≡ Some x → x < 2 ^ 32

-- each global has as many cells as are declared
abbrev pub AreDeclared : List Global → List (List ℕ) → Type 0
AreDeclared declared globals = (k : ℕ) (cells : List ℕ) → slice_get globals k ≡ Some cells → option_map (λ (g : Global). g.cells) (slice_get declared k) ≡ Some (length cells)
