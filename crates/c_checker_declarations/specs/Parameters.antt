-- Parameters as the checker meets them (C99 6.7.5.3).
use Rattle.std.specs.Prelude.{List, Some}
use Rattle.c_syntax.specs.declared.constant.IntegerType.{IntegerType}
use Rattle.c_syntax.specs.declared.constant.IntegerType.TheVariants.{Int}
use Rattle.c_syntax.specs.declared.identifier.Identifier.{Identifier}
use Rattle.c_syntax.specs.declared.declaration.OpenParameter.{OpenParameter}
use Rattle.c_syntax.specs.declared.declaration.ReturnType.TheVariants.{Value}
use Rattle.c_checker_rules.specs.declared.signature.Signature.{Signature}
use Rattle.c_checker_rules.specs.Names.{Scope}
use Rattle.c_checker_rules.specs.Locals.{Here}

-- a parameter with a name; where its type stands is not asked then
abbrev pub named : IntegerType → Identifier → OpenParameter
named t x = record { kind = t; name = Some x; offset = x.offset }

-- before the first parameter: the file's names, and no local
abbrev pub from_none : Scope → Here
from_none scope = record { scope = scope; locals = 0 }

-- the type of a function that gives an `int` and takes these
abbrev pub int_of : List IntegerType → Signature
int_of kinds = record { result = Value Int; kinds = kinds }
