-- Where offers of a function are wanting.
use Rattle.std.proofs.Common.{◌≡◌, ◌≢◌, ℕ, zero, suc, ◌+◌, ◌<◌, ◌≤◌, List, [], ◌∷◌, map, length, get_or, Option, Some, None, refl, sym, ap, subst, ◌∙◌, arith, inl, inr}
use Rattle.std.specs.Prelude.{is_some, slice_get, option_map, IsSome}
use Rattle.std.proofs.lemmas.Bool.{cases_eq}
use Rattle.std.proofs.lemmas.Option.{slice_get-get_or, slice_get-map, slice_get_within}
use Rattle.lang_base.specs.declared.program.Named as code
use Rattle.rtl_language.specs.Function.{FunctionData}
use Rattle.farm_nodes_link.specs.Learned.{FourOffers, IsUndecided}
use Rattle.farm_nodes_link.specs.Lent.{Chain, lent}
use Rattle.farm_nodes_link.specs.Offered.{ChainsFrom, AllGoOn}

-- what is at a place
pub seen_at : {S T : Type 0} (v : S → T) (seats : List S) (n : ℕ) (s : S) → n < length seats → s ≡ get_or seats n s → slice_get (map v seats) n ≡ Some (v s)
seen_at v seats n s within is = slice_get-map v seats n ∙ ap (λ o. option_map v o) (slice_get-get_or seats n s within ∙ ap (λ t. Some t) (sym is))

one_item : (p : Option (Option FourOffers)) (x y : Option FourOffers) → p ≡ Some x → p ≡ Some y → x ≡ y
one_item p x y e e' = cc

-- none is wanting at the first places
abbrev pub NoneWanting : List (Option FourOffers) → ℕ → Type 0
NoneWanting learned n = (k : ℕ) → k < n → slice_get learned k ≡ Some None → ⊥

pub none_next : (learned : List (Option FourOffers)) (n : ℕ) (o : Option FourOffers) → NoneWanting learned n → slice_get learned n ≡ Some o → o ≢ None → NoneWanting learned (n + 1)
none_next learned n o before here there k below wanting = elim (cases_eq k n) [
  | inl is ↦ let same : o ≡ None = one_item (slice_get learned n) o None here (sym (ap (λ j. slice_get learned j) is) ∙ wanting) in there same
  | inr other ↦ before k (omega (arith, below, other)) wanting
]

pub all_decided : (learned : List (Option FourOffers)) (n : ℕ) → length learned ≤ n → NoneWanting learned n → IsUndecided learned → ⊥
all_decided learned n end none is =
    let within : is.function < length learned = slice_get_within learned is.function None is.wanting in
    none is.function (omega (arith, within, end)) is.wanting

-- at each place something is learned where none is wanting
pub some_at : (learned : List (Option FourOffers)) (n : ℕ) (o : Option FourOffers) → (IsUndecided learned → ⊥) → slice_get learned n ≡ Some o → IsSome o
some_at learned n None decided here = absurd (decided (record { function = n; wanting = here }))
some_at learned n (Some x) decided here = refl

-- offers that are lent are there
pub lent_some : (chain : Option Chain) → chain ≢ None → lent chain ≢ None
lent_some None there e = there refl
lent_some (Some c) there e = absurd (cc e)

pub lent_is_some : (chain : Option Chain) → is_some chain ≡ is_some (lent chain)
lent_is_some None = refl
lent_is_some (Some c) = refl

-- where all go on none is wanting
pub none_wanting : (functions : List (code.Named FunctionData)) (learned : List (Option FourOffers)) (k : ℕ) → AllGoOn functions learned → slice_get learned k ≡ Some None → ⊥
none_wanting [] [] k all wanting = cc wanting
none_wanting [] (o ∷ learned) k all wanting = all
none_wanting (f ∷ functions) [] k all wanting = all
none_wanting (f ∷ functions) (o ∷ learned) zero all wanting =
    let same : o ≡ None = cc wanting in
    subst (λ p. ChainsFrom f.function p) same all.0
none_wanting (f ∷ functions) (o ∷ learned) (suc k) all wanting = none_wanting functions learned k all.1 wanting
