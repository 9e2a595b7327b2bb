-- What a scope stands for: the running function's locals are those from its base on.
use Rattle.std.specs.Prelude.{ℕ, List, Option, drop}
use Rattle.c_program.specs.State.{State}
use Rattle.c_program.specs.Values.{Variables}
use Rattle.c_meaning_machine.specs.declared.scope.Scope.{Scope}

-- the running function's locals
abbrev pub locals_of : Scope → List (Option ℕ)
locals_of s = drop s.base s.locals.items

-- what expressions read
abbrev pub variables_of : Scope → Variables
variables_of s = record { locals = drop s.base s.locals.items; globals = s.globals.items }

-- the state of the running function, where so much is printed
abbrev pub state_of : Scope → List ℕ → State
state_of s output = record { locals = drop s.base s.locals.items; globals = s.globals.items; output = output }
