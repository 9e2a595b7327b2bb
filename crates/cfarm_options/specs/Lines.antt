-- The lines of what a user is told beside what a build comes to: of a file that was not used, and of the folder.
use Rattle.std.specs.Prelude.{ℕ, List, ◌++◌, codes}
use Rattle.std.specs.Fmt.{decimal}
use Rattle.cfarm_shown_paths.specs.Shown.{shown_path}
use Rattle.cfarm_options.specs.declared.ignored.Ignored.{Ignored}
use Rattle.cfarm_options.specs.declared.note.Note.{Note}
use Rattle.cfarm_options.specs.declared.note.Note.TheVariants.{Lost, Migrated}

abbrev pub ignored_line : Ignored → List ℕ
ignored_line told = codes "ignored " ++ (shown_path told.path.now ++ (codes " " ++ (decimal told.number ++ (codes " " ++ told.name.now))))

-- of a node without a journal, where others have records
abbrev pub lost_line : ℕ → List ℕ
lost_line node = codes "node " ++ (decimal node ++ codes " has no journal, others have: what it had voted is not known")

-- of journals of the first version that were migrated, of all nodes', though nothing is built
abbrev pub migrated_line : ℕ → ℕ → List ℕ
migrated_line old nodes = codes "migrated " ++ (decimal old ++ (codes " of " ++ (decimal nodes ++ codes " journals, though nothing is built")))

abbrev pub note_line : Note → List ℕ
note_line (Lost node) = lost_line node
note_line (Migrated old nodes) = migrated_line old nodes
