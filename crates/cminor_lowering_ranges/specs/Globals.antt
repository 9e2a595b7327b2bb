-- How large a global variable of a checked program is.
use Rattle.std.specs.Prelude.{◌<◌, ◌≤◌, length}
use Rattle.c_program.specs.declared.function.GlobalVariable.{GlobalVariable}

-- it has a cell, and not too many, and begins with no more words than cells
pub record IsSized (g : GlobalVariable) : Type 0 where
  pub some : 0 < g.cells
  pub few : g.cells ≤ 65536
  pub listed : length g.first_words ≤ g.cells
