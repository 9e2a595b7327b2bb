-- The files of a build, in its folder.
use Rattle.std.specs.Prelude.{ℕ, List, ◌++◌, codes}
use Rattle.std.specs.Fmt.{decimal}
use Rattle.std.specs.Path.{path_join}

-- the journal of a node
abbrev pub journal_path : List ℕ → ℕ → List ℕ
journal_path folder node = path_join folder (codes "node" ++ (decimal node ++ codes ".cf2"))

-- its journal of the first version, where it has one
abbrev pub old_journal_path : List ℕ → ℕ → List ℕ
old_journal_path folder node = path_join folder (codes "node" ++ (decimal node ++ codes ".cfj"))

-- the linked program
abbrev pub linked_path : List ℕ → List ℕ
linked_path folder = path_join folder (codes "linked.cfp")

-- in a folder of offers that were made outside, that of a pass for a node and for the function of this name
abbrev pub offer_path : List ℕ → ℕ → List ℕ → ℕ → List ℕ
offer_path folder node name pass =
    path_join folder (codes "node" ++ (decimal node ++ (codes "/" ++ (name ++ (codes ".pass" ++ decimal pass)))))
