-- What a refusal to link the chains says of the offers.
use Rattle.std.proofs.Common.{◌≡◌, ℕ, zero, suc, List, [], ◌∷◌, take, Option, Some, None, subst}
use Rattle.std.specs.Prelude.{slice_get}
use Rattle.lang_base.specs.declared.program.Named as code
use Rattle.rtl_language.specs.Function.{FunctionData}
use Rattle.linker.specs.declared.errors.LinkError as chains
use Rattle.linker.specs.declared.errors.LinkError.TheVariants as chain
use Rattle.linker.specs.Chains.{HasChain, IsChain, AllChained, Refusal}
use Rattle.chains.specs.declared.offering.Offers.{Offers}
use Rattle.chains.specs.Lent.{Chain, Named, LendsTo, AreBeside}
use Rattle.chains.specs.Offered.{GoOnFrom}
use Rattle.chains.specs.Unlinked.{IsFirstBroken, IsUnlinked}
use Rattle.chains.proofs.Beside.{has_chain, goes_on, names_are}

-- beside a name with offers none are missing
is_lent : (o : Offers) (chain : Option Chain) → LendsTo o chain → chain ≡ None → ⊥
is_lent o None lent e = lent
is_lent o (Some chain) lent e = cc e

none_missing : (functions : List (code.Named FunctionData)) (offers : List Offers) (named : List Named) (i : ℕ) (m : Named) → AreBeside functions offers named
    → slice_get named i ≡ Some m → m.chain ≡ None → ⊥
none_missing [] [] [] i m are there missing = cc there
none_missing [] [] (n ∷ named) i m are there missing = are
none_missing [] (o ∷ offers) named i m are there missing = are
none_missing (f ∷ functions) [] named i m are there missing = are
none_missing (f ∷ functions) (o ∷ offers) [] i m are there missing = are
none_missing (f ∷ functions) (o ∷ offers) (n ∷ named) zero m are there missing =
    let same : n ≡ m = cc there in
    is_lent o m.chain (subst (λ x. LendsTo o x.chain) same are.0.lends) missing
none_missing (f ∷ functions) (o ∷ offers) (n ∷ named) (suc i) m are there missing = none_missing functions offers named i m are.1 there missing

-- the chain that is broken is of offers that do not go on
module _ (g : code.Named FunctionData) (m : Named) (chain : Chain) (offered : m.chain ≡ Some chain) (broken : IsChain g.function chain → ⊥) where
  broken_here : (f : code.Named FunctionData) (o : Offers) (n : Named) → f ≡ g → n ≡ m → LendsTo o n.chain → GoOnFrom f.function o → ⊥
  broken_here f o n ef en lent go =
      broken (subst (λ c. HasChain g.function c) offered (subst (λ x. HasChain g.function x.chain) en (subst (λ h. HasChain h.function n.chain) ef (has_chain f.function o n.chain lent go))))

  first_broken : (functions : List (code.Named FunctionData)) (offers : List Offers) (named : List Named) (i : ℕ) → AreBeside functions offers named
      → AllChained (take i functions) (take i named) → slice_get functions i ≡ Some g → slice_get named i ≡ Some m
      → IsFirstBroken functions offers i
  first_broken [] [] [] i are before of there = absurd (cc of)
  first_broken [] [] (n ∷ named) i are before of there = absurd are
  first_broken [] (o ∷ offers) named i are before of there = absurd are
  first_broken (f ∷ functions) [] named i are before of there = absurd are
  first_broken (f ∷ functions) (o ∷ offers) [] i are before of there = absurd are
  first_broken (f ∷ functions) (o ∷ offers) (n ∷ named) zero are before of there =
      broken_here f o n (cc of) (cc there) are.0.lends
  first_broken (f ∷ functions) (o ∷ offers) (n ∷ named) (suc i) are before of there =
      (goes_on f.function o n.chain are.0.lends before.0, first_broken functions offers named i are.1 before.1 of there)

pub unlinked : (functions : List (code.Named FunctionData)) (offers : List Offers) (named : List Named) (e : chains.LinkError) → AreBeside functions offers named
    → Refusal functions named e → IsUnlinked functions offers e
unlinked functions offers named chain.NoMemory are told = tt
unlinked functions offers named (chain.TooManyNodes i) are told = absurd told
unlinked functions offers named chain.Names are told = absurd (told (names_are functions offers named are))
unlinked functions offers named (chain.Missing i) are told = absurd (none_missing functions offers named i told.beside are told.there told.missing)
unlinked functions offers named (chain.Unchained i) are told =
    first_broken told.function told.beside told.chain told.offered told.broken functions offers named i are told.before told.of told.there
