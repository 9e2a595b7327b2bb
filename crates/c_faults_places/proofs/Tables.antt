-- The places of the functions from a declaration on.
use Rattle.std.proofs.Common.{◌≡◌, ℕ, ◌+◌, ◌<◌, List, [], ◌∷◌, ◌++◌, length, get_or, drop, map, sym, ap, ◌∙◌, append_assoc}
use Rattle.std.proofs.lemmas.List.{drop_more}
use Rattle.c_syntax.specs.declared.declaration.Declaration.{Declaration}
use Rattle.c_syntax.specs.declared.declaration.Declaration.TheVariants as D
use Rattle.c_syntax.specs.declared.declaration.Global.{Global}
use Rattle.c_syntax.specs.declared.declaration.Prototype.{Prototype}
use Rattle.c_syntax.specs.declared.declaration.Function as S
use Rattle.c_syntax.specs.declared.token.Token.{Token}
use Rattle.c_syntax.specs.Views.{declaration_tree, function_tree}
use Rattle.c_program.specs.declared.function.Function as F
use Rattle.c_program.specs.Views as V
use Rattle.c_faults_tokens.specs.Declarations.{behind_declaration}
use Rattle.c_faults_places.specs.Table.{function_places, places_of}

abbrev pub table_from : ℕ → List Declaration → List F.Function → List Token → List (List ℕ)
table_from i ds gs ts = places_of (map declaration_tree (drop i ds)) (map V.function_tree gs) ts

one : (ds : List Declaration) (i : ℕ) (x : Declaration) (gs : List F.Function) (ts : List Token) → i < length ds → x ≡ get_or ds i x →
    table_from i ds gs ts ≡ places_of (declaration_tree x ∷ map declaration_tree (drop (i + 1) ds)) (map V.function_tree gs) ts
one ds i x gs ts h e =
    ap (λ l. places_of (map declaration_tree l) (map V.function_tree gs) ts) (drop_more ds i x h ∙ ap (λ y. y ∷ drop (i + 1) ds) (sym e))

-- no function is checked for those that are left
pub no_checked : (ds : List Declaration) (i : ℕ) (x : Declaration) (f : S.Function) (ts : List Token) → i < length ds → x ≡ get_or ds i x → x ≡ D.Function f →
    table_from i ds [] ts ≡ []
no_checked ds i x f ts h e is =
    one ds i x [] ts h e ∙ ap (λ y. places_of (declaration_tree y ∷ map declaration_tree (drop (i + 1) ds)) [] ts) is

-- a function is next, and stands for the next checked one
pub one_function : (front : List (List ℕ)) (ds : List Declaration) (i : ℕ) (x : Declaration) (f : S.Function) (g : F.Function) (gs : List F.Function) (ts : List Token) →
    i < length ds → x ≡ get_or ds i x → x ≡ D.Function f →
    front ++ table_from i ds (g ∷ gs) ts
    ≡ (front ++ function_places (function_tree f) (V.function_tree g) ts ∷ []) ++ table_from (i + 1) ds gs (behind_declaration (declaration_tree x) ts)
one_function front ds i x f g gs ts h e is =
    let places = function_places (function_tree f) (V.function_tree g) ts in
    let rest = λ (us : List Token). table_from (i + 1) ds gs us in
    ap (λ l. front ++ l)
    (one ds i x (g ∷ gs) ts h e
    ∙ ap (λ y. places_of (declaration_tree y ∷ map declaration_tree (drop (i + 1) ds)) (map V.function_tree (g ∷ gs)) ts) is
    ∙ ap (λ y. places ∷ rest (behind_declaration (declaration_tree y) ts)) (sym is))
    ∙ sym (append_assoc front (places ∷ []) (rest (behind_declaration (declaration_tree x) ts)))

-- what is next is no function
pub no_global : (ds : List Declaration) (i : ℕ) (x : Declaration) (g : Global) (gs : List F.Function) (ts : List Token) →
    i < length ds → x ≡ get_or ds i x → x ≡ D.Global g → table_from i ds gs ts ≡ table_from (i + 1) ds gs (behind_declaration (declaration_tree x) ts)
no_global ds i x g gs ts h e is =
    let rest = λ (us : List Token). table_from (i + 1) ds gs us in
    one ds i x gs ts h e
    ∙ ap (λ y. places_of (declaration_tree y ∷ map declaration_tree (drop (i + 1) ds)) (map V.function_tree gs) ts) is
    ∙ ap (λ y. rest (behind_declaration (declaration_tree y) ts)) (sym is)

pub no_prototype : (ds : List Declaration) (i : ℕ) (x : Declaration) (p : Prototype) (gs : List F.Function) (ts : List Token) →
    i < length ds → x ≡ get_or ds i x → x ≡ D.Prototype p → table_from i ds gs ts ≡ table_from (i + 1) ds gs (behind_declaration (declaration_tree x) ts)
no_prototype ds i x p gs ts h e is =
    let rest = λ (us : List Token). table_from (i + 1) ds gs us in
    one ds i x gs ts h e
    ∙ ap (λ y. places_of (declaration_tree y ∷ map declaration_tree (drop (i + 1) ds)) (map V.function_tree gs) ts) is
    ∙ ap (λ y. rest (behind_declaration (declaration_tree y) ts)) (sym is)
