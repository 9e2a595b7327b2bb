-- What offers that are lent beside names link.
use Rattle.std.proofs.Common.{◌≡◌, ℕ, zero, suc, List, [], ◌∷◌, ◌++◌, take, Option, Some, None, refl, sym, ap, subst, ◌∙◌}
use Rattle.std.specs.Prelude.{slice_get}
use Rattle.lang_base.specs.declared.program.Named as code
use Rattle.rtl_language.specs.Function.{FunctionData}
use Rattle.linker.specs.Chains.{IsChain, HasChain, AllChained, made_of, all_made_of}
use Rattle.farm_nodes_link.specs.Lent.{Chain, Named, lent, lent_beside}
use Rattle.farm_nodes_link.specs.Offered.{ChainsFrom, AllGoOn, end_of, ends_of}
use Rattle.farm_nodes_link.specs.Refused.{IsBroken, IsFirstBroken}

-- what is made is the output of the fourth offer
one_end : (name : List ℕ) (chain : Option Chain) → made_of (λ c. c.fourth.now.output) name chain ≡ end_of name (lent chain)
one_end name None = refl
one_end name (Some chain) = refl

pub all_ends : (functions : List (code.Named FunctionData)) (named : List Named)
    → all_made_of (λ c. c.fourth.now.output) functions named ≡ ends_of functions (lent_beside named)
all_ends [] named = refl
all_ends (f ∷ functions) [] = refl
all_ends (f ∷ functions) (n ∷ named) = λ i. one_end f.name n.chain i ++ all_ends functions named i

-- what is lent chains where the offers go on
has_chain : (f : FunctionData) (chain : Option Chain) → ChainsFrom f (lent chain) → HasChain f chain
has_chain f None go = absurd go
has_chain f (Some chain) go = record { first = go.constants; second = go.expressions; third = go.allocation; fourth = go.order }

pub chained : (functions : List (code.Named FunctionData)) (named : List Named) → AllGoOn functions (lent_beside named) → AllChained functions named
chained [] [] go = tt
chained [] (n ∷ named) go = absurd go
chained (f ∷ functions) [] go = absurd go
chained (f ∷ functions) (n ∷ named) go = (has_chain f.function n.chain go.0, chained functions named go.1)

-- and nowhere else
goes_on : (f : FunctionData) (chain : Option Chain) → HasChain f chain → ChainsFrom f (lent chain)
goes_on f None is = absurd is
goes_on f (Some chain) is = record { constants = is.first; expressions = is.second; allocation = is.third; order = is.fourth }

pub all_go_on : (functions : List (code.Named FunctionData)) (named : List Named) → AllChained functions named → AllGoOn functions (lent_beside named)
all_go_on [] [] all = tt
all_go_on [] (n ∷ named) all = absurd all
all_go_on (f ∷ functions) [] all = absurd all
all_go_on (f ∷ functions) (n ∷ named) all = (goes_on f.function n.chain all.0, all_go_on functions named all.1)

-- beside a name with no offers they are wanting
pub wanting : (named : List Named) (i : ℕ) (m : Named) → slice_get named i ≡ Some m → m.chain ≡ None → slice_get (lent_beside named) i ≡ Some None
wanting [] i m there missing = absurd (cc there)
wanting (n ∷ named) zero m there missing =
    let same : n ≡ m = cc there in
    ap (λ (x : Named). Some (lent x.chain)) same ∙ ap (λ (o : Option Chain). Some (lent o)) missing
wanting (n ∷ named) (suc i) m there missing = wanting named i m there missing

-- a chain that is broken is of offers that do not go on
module _ (g : code.Named FunctionData) (m : Named) (chain : Chain) (offered : m.chain ≡ Some chain) (broken : IsChain g.function chain → ⊥) where
  broken_here : (f : code.Named FunctionData) (n : Named) → f ≡ g → n ≡ m → IsBroken f.function (lent n.chain)
  broken_here f n ef en =
      let is : IsBroken g.function (lent (Some chain)) = λ go. broken (record { first = go.constants; second = go.expressions; third = go.allocation; fourth = go.order }) in
      subst (λ (h : code.Named FunctionData). IsBroken h.function (lent n.chain)) (sym ef)
      (subst (λ (x : Named). IsBroken g.function (lent x.chain)) (sym en)
      (subst (λ (o : Option Chain). IsBroken g.function (lent o)) (sym offered) is))

  pub first_broken : (functions : List (code.Named FunctionData)) (named : List Named) (i : ℕ)
      → AllChained (take i functions) (take i named) → slice_get functions i ≡ Some g → slice_get named i ≡ Some m
      → IsFirstBroken functions (lent_beside named) i
  first_broken [] named i before of there = absurd (cc of)
  first_broken (f ∷ functions) [] i before of there = absurd (cc there)
  first_broken (f ∷ functions) (n ∷ named) zero before of there = broken_here f n (cc of) (cc there)
  first_broken (f ∷ functions) (n ∷ named) (suc i) before of there =
      (goes_on f.function n.chain before.0, first_broken functions named i before.1 of there)
