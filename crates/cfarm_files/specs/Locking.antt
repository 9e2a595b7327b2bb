-- The lock of a folder.
use Rattle.std.specs.Prelude.{ℕ, List, codes}
use Rattle.std.specs.Path.{path_join}

-- its file
abbrev pub lock_path : List ℕ → List ℕ
lock_path folder = path_join folder (codes "cfarm.lock")

-- these paths are among them: those of all files of the folder
abbrev pub CoversFolder : (List ℕ → Type 0) → List ℕ → Type 0
CoversFolder covers folder = (name : List ℕ) → covers (path_join folder name)
