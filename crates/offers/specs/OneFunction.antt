-- The program of one function.
use Rattle.std.specs.Prelude.{ℕ, List, [], ◌∷◌}
use Rattle.lang_base.specs.declared.program.Global.{Global}
use Rattle.lang_base.specs.declared.program.Program.{Program}

-- the program of these globals and this function alone, under this name
abbrev pub program_of_one : {F : Type 0} → List Global → List ℕ → F → Program F
program_of_one globals name function = record { globals = globals; functions = record { name = name; function = function } ∷ [] }
