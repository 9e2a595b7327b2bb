-- Where the chains are whole nothing is missing, and none is broken.
use Rattle.std.proofs.Common.{◌≡◌, ◌≢◌, ℕ, zero, suc, List, [], ◌∷◌, Some, None, subst, refl}
use Rattle.std.specs.Prelude.{slice_get}
use Rattle.offers.specs.declared.parts.Parts.{Parts}
use Rattle.lang_base.specs.declared.program.Named as code
use Rattle.linker.specs.declared.chain.Named.{Named}
use Rattle.linker.specs.declared.errors.LinkError.{LinkError}
use Rattle.linker.specs.declared.errors.LinkError.TheVariants.{NoMemory, TooManyNodes, Missing, Unchained, Names}
use Rattle.linker.specs.Chains.{HasChain, AllChained, Refusal}

module _ {A1 A2 A3 A4 A5 C1 C2 C3 C4 : Type 0} where
  -- each function has its chain
  chain_there : (functions : List (code.Named A1)) (named : List (Named (Parts A1 A2 C1) (Parts A2 A3 C2) (Parts A3 A4 C3) (Parts A4 A5 C4))) (i : ℕ) (f : code.Named A1) (m : Named (Parts A1 A2 C1) (Parts A2 A3 C2) (Parts A3 A4 C3) (Parts A4 A5 C4))
      → AllChained functions named → slice_get functions i ≡ Some f → slice_get named i ≡ Some m → HasChain f.function m.chain
  chain_there [] named i f m chained of there = absurd (cc of)
  chain_there (x ∷ functions) [] i f m chained of there = absurd chained
  chain_there (x ∷ functions) (y ∷ named) zero f m chained of there =
      let same : x ≡ f = cc of in
      let also : y ≡ m = cc there in
      subst (λ g. HasChain g.function m.chain) same (subst (λ n. HasChain x.function n.chain) also chained.0)
  chain_there (x ∷ functions) (y ∷ named) (suc i) f m chained of there = chain_there functions named i f m chained.1 of there

  -- so none is missing
  none_missing : (functions : List (code.Named A1)) (named : List (Named (Parts A1 A2 C1) (Parts A2 A3 C2) (Parts A3 A4 C3) (Parts A4 A5 C4))) (i : ℕ) (m : Named (Parts A1 A2 C1) (Parts A2 A3 C2) (Parts A3 A4 C3) (Parts A4 A5 C4))
      → AllChained functions named → slice_get named i ≡ Some m → m.chain ≡ None → ⊥
  none_missing [] [] i m chained there missing = absurd (cc there)
  none_missing [] (y ∷ named) i m chained there missing = absurd chained
  none_missing (x ∷ functions) [] i m chained there missing = absurd chained
  none_missing (x ∷ functions) (y ∷ named) zero m chained there missing =
      let also : y ≡ m = cc there in
      subst (λ chain. HasChain x.function chain) missing (subst (λ n. HasChain x.function n.chain) also chained.0)
  none_missing (x ∷ functions) (y ∷ named) (suc i) m chained there missing = none_missing functions named i m chained.1 there missing

  -- only memory is left to be refused
  pub only_memory : (functions : List (code.Named A1)) (named : List (Named (Parts A1 A2 C1) (Parts A2 A3 C2) (Parts A3 A4 C3) (Parts A4 A5 C4))) (e : LinkError)
      → AllChained functions named → e ≢ Names → Refusal functions named e → e ≡ NoMemory
  only_memory functions named NoMemory chained other told = refl
  only_memory functions named Names chained other told = absurd (other refl)
  only_memory functions named (TooManyNodes i) chained other told = absurd told
  only_memory functions named (Missing i) chained other told = absurd (none_missing functions named i told.beside chained told.there told.missing)
  only_memory functions named (Unchained i) chained other told =
      absurd (told.broken (subst (λ chain. HasChain told.function.function chain) told.offered (chain_there functions named i told.function told.beside chained told.of told.there)))
