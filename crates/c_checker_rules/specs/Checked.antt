-- What a checked program holds, and what is kept of it: it stands for the program of a well formed text no part of which is
-- too high.
use Rattle.std.specs.Prelude.{◌≡◌, ℕ, List, map}
use Rattle.std.specs.List.{AllByRecursion}
use Rattle.c_syntax.specs.Trees.{UnitTree}
use Rattle.c_syntax.specs.Heights.{IsLow}
use Rattle.c_program.specs.declared.function.GlobalVariable.{GlobalVariable}
use Rattle.c_program.specs.declared.function.Function.{Function}
use Rattle.c_program.specs.Trees.{ProgramTree}
use Rattle.c_program.specs.Views.{function_tree}
use Rattle.c_checker_rules.specs.Units.{IsWellFormed, program_of}

pub record Contents : Type 0 where
  pub globals : List GlobalVariable
  pub functions : List Function
  pub main : ℕ

-- the program that it stands for
abbrev pub program_tree : Contents → ProgramTree
program_tree p = record { globals = p.globals; functions = map function_tree p.functions; main = p.main }

abbrev pub IsChecked : ProgramTree → Type 0
IsChecked p = (u : UnitTree) × AllByRecursion IsLow u.declarations × IsWellFormed u × (p ≡ program_of u)
