-- What is told of nodes that have no journal, where others have records: what these had voted is not known.
use Rattle.std.specs.Prelude.{ℕ, suc, Bool, false, if◌then◌else◌, ◌||◌, List, [], ◌∷◌, ◌++◌}
use Rattle.cfarm_fsck_journals.specs.declared.files.NodeFiles.{NodeFiles}
use Rattle.cfarm_options.specs.Holding.{holds_nothing, holds_records}
use Rattle.cfarm_options.specs.Lines.{lost_line}

-- the files of this node hold no journal
abbrev pub has_none : NodeFiles → Bool
has_none one = holds_nothing one.new.items one.old.items

-- those of some node hold records
abbrev pub have_records : List NodeFiles → Bool
have_records [] = false
have_records (one ∷ others) = holds_records one.new.items one.old.items || have_records others

-- the end of a line, behind a text that is not empty
abbrev pub ended : List ℕ → List ℕ
ended [] = []
ended (c ∷ text) = c ∷ text ++ 10 ∷ []

-- behind this text the line of the node of this number, where it has no journal
abbrev pub with_node : (text : List ℕ) → ℕ → NodeFiles → List ℕ
with_node text node one = if has_none one then ended text ++ lost_line node else text

-- behind this text the lines of all such nodes, the first of which has this number
abbrev pub with_nodes : (text : List ℕ) → ℕ → List NodeFiles → List ℕ
with_nodes text node [] = text
with_nodes text node (one ∷ others) = with_nodes (with_node text node one) (suc node) others

-- a line for each node that has no journal, where others have records
abbrev pub lost_lines : List NodeFiles → List ℕ
lost_lines files = if have_records files then with_nodes [] 0 files else []
