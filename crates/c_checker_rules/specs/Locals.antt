-- Declarations of locals (C99 6.2.1 and 6.7), and what is known where a statement stands.
use Rattle.std.specs.Prelude.{ℕ, suc, ◌==◌, List, ◌∷◌, ◌++◌, length, Option, Some, None, Bool, true, false, not, ◌&&◌, nat_lt, nat_le}
use Rattle.c_syntax.specs.declared.constant.IntegerType.{IntegerType}
use Rattle.c_checker_scopes.specs.Bound.{Bound, found}
use Rattle.c_syntax.specs.declared.identifier.Identifier.{Identifier}
use Rattle.c_checker_rules.specs.declared.errors.CheckError.{CheckError}
use Rattle.c_checker_rules.specs.declared.errors.CheckError.TheVariants.{Redeclared, Limit}
use Rattle.c_checker_rules.specs.declared.meaning.Meaning.{Meaning}
use Rattle.c_checker_rules.specs.declared.meaning.Meaning.TheVariants as M
use Rattle.c_checker_rules.specs.declared.context.Context.{Context}
use Rattle.c_checker_rules.specs.Told.{unless}
use Rattle.c_checker_rules.specs.Names.{Scope}

-- in a block in this context
abbrev pub deeper : Context → Context
deeper p = record p { depth = suc p.depth }

-- in a loop in this context
abbrev pub looping : Context → Context
looping p = record p { in_loop = true }

-- the names that are declared, and how many locals the function has so far
pub record Here : Type 0 where
  pub scope : Scope
  pub locals : ℕ

-- at the end of a block its names are forgotten, and its locals keep their numbers
abbrev pub left : Here → Here → Here
left outer inner = record { scope = outer.scope; locals = inner.locals }

-- most locals of a function, parameters among them, and most bytes of a name
abbrev pub most_locals : ℕ
most_locals = 256

abbrev pub longest_name : ℕ
longest_name = 255

abbrev pub is_short : Identifier → Bool
is_short x = nat_le (length x.name) longest_name

-- a name is declared in the scope of this depth itself
abbrev pub is_at : ℕ → Option (Bound Meaning) → Bool
is_at depth None = false
is_at depth (Some b) = b.depth == depth

abbrev pub is_new : ℕ → Scope → Identifier → Bool
is_new depth scope x = not (is_at depth (found x.name scope))

abbrev pub local_faults : ℕ → Here → Identifier → List CheckError
local_faults depth h x =
    unless (is_new depth h.scope x) (Redeclared x.offset) ++ unless (nat_lt h.locals most_locals && is_short x) (Limit x.offset)

-- the name is declared with the next number
abbrev pub with_local : ℕ → Here → IntegerType → Identifier → Here
with_local depth h t x = record { scope = record { name = x.name; depth = depth; value = M.Local h.locals t } ∷ h.scope; locals = suc h.locals }
