-- What is asked of a program's parts where they are written: the form's numbers can say the lengths.
use Rattle.std.specs.Prelude.{◌≤◌, ◌<◌, ◌^◌, length}
use Rattle.lang_base.specs.declared.program.Global.{Global}
use Rattle.lang_base.specs.declared.program.Named.{Named}

pub record IsShortGlobal (g : Global) : Type 0 where
  pub words : length g.first_words < 2 ^ 32

pub record IsShortNamed {F : Type 0} (f : Named F) : Type 0 where
  pub name : length f.name ≤ 255
