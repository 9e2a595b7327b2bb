-- The parameters of a function with a body all have names, those of a prototype may be without.
use Rattle.std.specs.Prelude.{List, [], ◌∷◌, Option, Some, None}
use Rattle.c_syntax.specs.declared.identifier.Identifier.{Identifier}
use Rattle.c_syntax.specs.declared.declaration.Parameter.{Parameter}
use Rattle.c_syntax.specs.declared.declaration.OpenParameter.{OpenParameter}

-- the same parameter, if it has a name
abbrev pub named_by : OpenParameter → Option Identifier → Option Parameter
named_by p None = None
named_by p (Some x) = Some (record { kind = p.kind; name = x; offset = p.offset })

abbrev pub named : OpenParameter → Option Parameter
named p = named_by p p.name

abbrev pub joined : Option Parameter → Option (List Parameter) → Option (List Parameter)
joined None others = None
joined (Some p) None = None
joined (Some p) (Some ps) = Some (p ∷ ps)

-- the same parameters, if all have names
abbrev pub all_named : List OpenParameter → Option (List Parameter)
all_named [] = Some []
all_named (p ∷ ps) = joined (named p) (all_named ps)
