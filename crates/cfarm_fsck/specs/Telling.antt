-- The lines that are told of a folder.
use Rattle.std.specs.Prelude.{ℕ, suc, ◌+◌, ◌*◌, List, [], ◌∷◌, ◌++◌, length, codes}
use Rattle.std.specs.Global.{Vec}
use Rattle.lang_base.specs.declared.program.Named.{Named}
use Rattle.rtl_language.specs.declared.function.Function.{Function}
use Rattle.paxos_core_world.specs.KeptPart.{KeptPart}
use Rattle.acceptor_log_form.specs.declared.record.Record.{Record}
use Rattle.farm_nodes_open_seats.specs.Kept.{kept_of}
use Rattle.cfarm_fsck.specs.Lines.{node_line, room_rest}

-- a line for each of a list, counted from this number
abbrev pub lines_from : {A : Type 0} → (ℕ → A → List ℕ) → ℕ → List A → List ℕ
lines_from line n [] = []
lines_from line n (x ∷ xs) = line n x ++ lines_from line (suc n) xs

-- of a node: how many records its journal lists, and how many bytes it has
abbrev pub journal_line : ℕ → ℕ × Vec Record → List ℕ
journal_line node j = node_line node (length j.1.items) j.0

abbrev pub node_lines : List (ℕ × Vec Record) → List ℕ
node_lines journals = lines_from journal_line 0 journals

-- what is told of the room of a function's pass behind the function's name, the first pass being 1
abbrev pub rest_of_room : ℕ → List (Vec KeptPart) → ℕ → ℕ → List ℕ
rest_of_room accept kept f pass = room_rest (pass + 1) accept (kept_of kept (4 * f + pass))

-- of that room
abbrev pub room_line : ℕ → List (Vec KeptPart) → List ℕ → ℕ → ℕ → List ℕ
room_line accept kept name f pass = name ++ rest_of_room accept kept f pass

-- of those of this pass and the next
abbrev pub two_lines : ℕ → List (Vec KeptPart) → List ℕ → ℕ → ℕ → List ℕ
two_lines accept kept name f pass = room_line accept kept name f pass ++ room_line accept kept name f (pass + 1)

-- of the four rooms of a function
abbrev pub four_lines : ℕ → List (Vec KeptPart) → List ℕ → ℕ → List ℕ
four_lines accept kept name f = two_lines accept kept name f 0 ++ two_lines accept kept name f 2

-- of all functions
abbrev pub room_lines : ℕ → List (Vec KeptPart) → List (Named Function) → List ℕ
room_lines accept kept functions = lines_from (λ f (x : Named Function). four_lines accept kept x.name f) 0 functions

-- of all functions, and that all is well
abbrev pub last_lines : ℕ → List (Vec KeptPart) → List (Named Function) → List ℕ
last_lines accept kept functions = room_lines accept kept functions ++ codes "ok\n"

-- of the whole folder, but for the last
abbrev pub front_lines : ℕ → List (Named Function) → List (ℕ × Vec Record) → List (Vec KeptPart) → List ℕ
front_lines accept functions journals kept = node_lines journals ++ room_lines accept kept functions

-- of the whole folder
abbrev pub folder_lines : ℕ → List (Named Function) → List (ℕ × Vec Record) → List (Vec KeptPart) → List ℕ
folder_lines accept functions journals kept = node_lines journals ++ last_lines accept kept functions
