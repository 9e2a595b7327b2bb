-- The paths of the files of a farm's journals.
use Rattle.std.specs.Prelude.{◌≡◌, ℕ, List, Some, String, slice_get, string_bytes}
use Rattle.cfarm_options.specs.Paths.{journal_path, old_journal_path}

module _ {Z : Type 0} (folder : List ℕ) where
  -- these are the paths of this node's two files: of its journal, and of one of the first version
  abbrev pub ArePathsOf : ℕ → String Z × String Z → Type 0
  ArePathsOf node paths = (string_bytes paths.0 ≡ journal_path folder node) × (string_bytes paths.1 ≡ old_journal_path folder node)

  -- they are those of all nodes, in order
  abbrev pub AreNamed : List (String Z × String Z) → Type 0
  AreNamed nodes = (node : ℕ) (paths : String Z × String Z) → slice_get nodes node ≡ Some paths → ArePathsOf node paths
