-- What a name means where it stands (C99 6.2.1): the innermost declaration of it before that place.
use Rattle.std.specs.Prelude.{List, Option}
use Rattle.std.specs.Option.{option_map}
use Rattle.c_checker_scopes.specs.Bound.{Bound, found}
use Rattle.c_syntax.specs.declared.identifier.Identifier.{Identifier}
use Rattle.c_checker_rules.specs.declared.meaning.Meaning.{Meaning}

-- the names that are declared, the newest first
abbrev pub Scope : Type 0
Scope = List (Bound Meaning)

abbrev pub meaning_of : Scope → Identifier → Option Meaning
meaning_of scope x = option_map (λ b. b.value) (found x.name scope)
