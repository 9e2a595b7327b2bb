-- What C calls.
use Rattle.std.specs.Prelude.{ℕ, List, Option, Some, None}
use Rattle.native_text.specs.declared.doorways.Doorways.{Doorways as Called}
use Rattle.native_text.specs.declared.doorways.Doorways.TheVariants.{Main, Exported}

-- the prefix of their names, where functions are exported
abbrev pub prefix_in : Called → Option (List ℕ)
prefix_in Main = None
prefix_in (Exported prefix) = Some prefix.now
