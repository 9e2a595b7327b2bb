-- The names of the files that a build has, and the paths at which nothing else is put.
use Rattle.std.specs.Prelude.{ℕ, List, [], ◌∷◌, ◌++◌, Bool, false, ◌||◌, Option, None, Some, codes}
use Rattle.std.specs.List.{list_any}
use Rattle.std.specs.Path.{path_file_name}
use Rattle.std.specs.Str.{bytes_eq}

-- in its folder: the lock, the linked program, beside it the one that is being written, and the journals of seven nodes
abbrev pub own_names : List (List ℕ)
own_names = codes "cfarm.lock" ∷ codes "linked.cfp" ∷ codes "linked.cfp.new"
    ∷ codes "node0.cf2" ∷ codes "node1.cf2" ∷ codes "node2.cf2" ∷ codes "node3.cf2" ∷ codes "node4.cf2" ∷ codes "node5.cf2" ∷ codes "node6.cf2"
    ∷ codes "node0.cfj" ∷ codes "node1.cfj" ∷ codes "node2.cfj" ∷ codes "node3.cfj" ∷ codes "node4.cfj" ∷ codes "node5.cfj" ∷ codes "node6.cfj" ∷ []

-- this is one of them
abbrev pub is_own_name : List ℕ → Bool
is_own_name name = list_any (bytes_eq name) own_names

-- the text has this name, or that of what is written beside a file of this name
abbrev pub is_of_text : Option (List ℕ) → List ℕ → Bool
is_of_text None name = false
is_of_text (Some text) name = bytes_eq text name || bytes_eq text (name ++ codes ".new")

-- what is put under this name might take the place of a file of the build's
abbrev pub takes_name : Option (List ℕ) → Option (List ℕ) → Bool
takes_name text None = false
takes_name text (Some name) = is_own_name name || is_of_text text name

-- the same of what is put at a path, by the name that it ends with, in whatever folder it stands
abbrev pub is_taken : (text path : List ℕ) → Bool
is_taken text path = takes_name (path_file_name text) (path_file_name path)
