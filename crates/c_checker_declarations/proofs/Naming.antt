-- A function's name that is new in its file, and one that is declared already.
use Rattle.std.proofs.Common.{◌≡◌, List, [], ◌∷◌, ◌++◌, length, refl}
use Rattle.std.specs.Prelude.{Option, Some, None, true, false, is_some}
use Rattle.std.specs.Option.{option_map}
use Rattle.c_checker_scopes.specs.Bound.{Bound, found, binding_of}
use Rattle.c_syntax.specs.declared.identifier.Identifier.{Identifier}
use Rattle.c_checker_rules.specs.declared.meaning.Meaning.{Meaning}
use Rattle.c_checker_rules.specs.declared.meaning.Meaning.TheVariants as M
use Rattle.c_checker_rules.specs.declared.signature.Signature.{Signature}
use Rattle.c_checker_rules.specs.Names.{Scope}
use Rattle.c_checker_rules.specs.Functions.{with_function, with_signature}

-- the same names, and the same signatures
abbrev pub IsAgain : List Signature → Scope → Identifier → Signature → Type 0
IsAgain signatures scope x s = (with_function signatures scope x ≡ scope) × (with_signature signatures scope x s ≡ signatures)

-- one more name, and one more signature
abbrev pub IsNew : List Signature → Scope → Identifier → Signature → Type 0
IsNew signatures scope x s =
    (with_function signatures scope x ≡ record { name = x.name; depth = 0; value = M.Function (length signatures) } ∷ scope)
    × (with_signature signatures scope x s ≡ signatures ++ s ∷ [])

new_at : (signatures : List Signature) (scope : Scope) (x : Identifier) (s : Signature) → found x.name scope ≡ None → IsNew signatures scope x s
new_at signatures scope x s e = (rw e refl, rw e refl)

again_at : (signatures : List Signature) (scope : Scope) (x : Identifier) (s : Signature) (b : Bound Meaning) → found x.name scope ≡ Some b → IsAgain signatures scope x s
again_at signatures scope x s b e = (rw e refl, rw e refl)

none_found : (o : Option (Bound Meaning)) → is_some (option_map binding_of o) ≡ false → o ≡ None
none_found None e = refl
none_found (Some b) e = cc

one_found : (o : Option (Bound Meaning)) → is_some (option_map binding_of o) ≡ true → (b : Bound Meaning) × (o ≡ Some b)
one_found None e = cc
one_found (Some b) e = (b, refl)

pub named_new : (signatures : List Signature) (scope : Scope) (x : Identifier) (s : Signature) → is_some (option_map binding_of (found x.name scope)) ≡ false → IsNew signatures scope x s
named_new signatures scope x s e = new_at signatures scope x s (none_found (found x.name scope) e)

pub named_again : (signatures : List Signature) (scope : Scope) (x : Identifier) (s : Signature) → is_some (option_map binding_of (found x.name scope)) ≡ true → IsAgain signatures scope x s
named_again signatures scope x s e =
    let one = one_found (found x.name scope) e in again_at signatures scope x s one.0 one.1
