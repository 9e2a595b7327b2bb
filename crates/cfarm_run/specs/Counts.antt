-- What `check` prints of a program.
use Rattle.std.specs.Prelude.{ℕ, List, [], ◌∷◌, ◌++◌, length, codes}
use Rattle.std.specs.Fmt.{decimal}
use Rattle.c_program.specs.Trees.{ProgramTree}

-- how many functions with bodies it has, and how many globals, and an end of line
abbrev pub counts_line : ProgramTree → List ℕ
counts_line p = codes "ok " ++ (decimal (length p.functions) ++ (codes " functions " ++ (decimal (length p.globals) ++ codes " globals\n")))
