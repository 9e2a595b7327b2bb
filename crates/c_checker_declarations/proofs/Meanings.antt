-- A function may be declared under a name by what the name means.
use Rattle.std.proofs.Common.{◌≡◌, List, refl}
use Rattle.std.specs.Prelude.{Option, Some, None}
use Rattle.std.specs.Option.{option_map}
use Rattle.c_checker_scopes.specs.Bound.{Bound, found}
use Rattle.c_syntax.specs.declared.identifier.Identifier.{Identifier}
use Rattle.c_checker_rules.specs.declared.meaning.Meaning.{Meaning}
use Rattle.c_checker_rules.specs.declared.signature.Signature.{Signature}
use Rattle.c_checker_rules.specs.Names.{Scope, meaning_of}
use Rattle.c_checker_rules.specs.Calls.{called}
use Rattle.c_checker_rules.specs.Functions.{may_be}
use Rattle.c_checker_declarations.specs.Meant.{is_same, may_mean}

as_called : (signatures : List Signature) (scope : Scope) (x : Identifier) (s : Signature) (b : Bound Meaning) (o : Option Signature) →
    found x.name scope ≡ Some b → called signatures (Some b.value) ≡ o → may_be signatures scope x s ≡ is_same o s
as_called signatures scope x s b None e h = rw (e, h) refl
as_called signatures scope x s b (Some t) e h = rw (e, h) refl

as_found : (signatures : List Signature) (scope : Scope) (x : Identifier) (s : Signature) (o : Option (Bound Meaning)) →
    found x.name scope ≡ o → may_be signatures scope x s ≡ may_mean signatures (option_map (λ b. b.value) o) s
as_found signatures scope x s None e = rw e refl
as_found signatures scope x s (Some b) e = as_called signatures scope x s b (called signatures (Some b.value)) e refl

pub may_be_meant : (signatures : List Signature) (scope : Scope) (x : Identifier) (s : Signature) →
    may_be signatures scope x s ≡ may_mean signatures (meaning_of scope x) s
may_be_meant signatures scope x s = as_found signatures scope x s (found x.name scope) refl
