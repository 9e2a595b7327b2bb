-- Naming parameters one behind another, as a loop does.
use Rattle.std.proofs.Common.{◌≡◌, List, [], ◌∷◌, ◌++◌, Option, Some, None, refl, sym, ap, ◌∙◌, append_assoc, append-nil}
use Rattle.c_syntax.specs.declared.declaration.Parameter.{Parameter}
use Rattle.c_syntax.specs.declared.declaration.OpenParameter.{OpenParameter}
use Rattle.c_reader_declaration_laws.specs.Parameters.{named, joined, all_named}

-- those named so far, and what becomes of the rest
abbrev pub with_front : List Parameter → Option (List Parameter) → Option (List Parameter)
with_front before None = None
with_front before (Some ps) = Some (before ++ ps)

abbrev pub IsNaming : List Parameter → List OpenParameter → List OpenParameter → Type 0
IsNaming before rest all = with_front before (all_named rest) ≡ all_named all

pub naming_begins : (o : Option (List Parameter)) → with_front [] o ≡ o
naming_begins None = refl
naming_begins (Some ps) = refl

one_more : (before : List Parameter) (p : Parameter) (o : Option (List Parameter)) → with_front before (joined (Some p) o) ≡ with_front (before ++ p ∷ []) o
one_more before p None = refl
one_more before p (Some ps) = ap (λ l. Some l) (sym (append_assoc before (p ∷ []) ps))

pub naming_goes_on : (before : List Parameter) (rest all behind : List OpenParameter) (o : OpenParameter) (p : Parameter) → IsNaming before rest all → rest ≡ o ∷ behind → named o ≡ Some p → IsNaming (before ++ p ∷ []) behind all
naming_goes_on before rest all behind o p so_far e n =
    sym (one_more before p (all_named behind))
    ∙ ap (λ x. with_front before (joined x (all_named behind))) (sym n)
    ∙ ap (λ l. with_front before (all_named l)) (sym e)
    ∙ so_far

pub naming_fails : (before : List Parameter) (rest all behind : List OpenParameter) (o : OpenParameter) → IsNaming before rest all → rest ≡ o ∷ behind → named o ≡ None → all_named all ≡ None
naming_fails before rest all behind o so_far e n =
    sym so_far
    ∙ ap (λ l. with_front before (all_named l)) e
    ∙ ap (λ x. with_front before (joined x (all_named behind))) n

pub naming_ends : (before : List Parameter) (rest all : List OpenParameter) → IsNaming before rest all → rest ≡ [] → all_named all ≡ Some before
naming_ends before rest all so_far e =
    sym so_far ∙ ap (λ l. with_front before (all_named l)) e ∙ ap (λ l. Some l) (append-nil before)
