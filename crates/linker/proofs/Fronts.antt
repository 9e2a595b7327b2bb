-- The first functions linked, and one more.
use Rattle.std.proofs.Common.{◌≡◌, ℕ, zero, suc, ◌<◌, List, [], ◌∷◌, ◌++◌, length, take, get_or, Option, Some, None, sym, ap, ◌∙◌, subst, refl, arith}
use Rattle.std.specs.Prelude.{slice_get}
use Rattle.std.proofs.lemmas.Option.{slice_get-get_or}
use Rattle.offers.specs.declared.parts.Parts.{Parts}
use Rattle.lang_base.specs.declared.program.Named as code
use Rattle.linker.specs.declared.chain.Chain.{Chain}
use Rattle.linker.specs.declared.chain.Named.{Named}
use Rattle.linker.specs.declared.errors.LinkError.{LinkError}
use Rattle.linker.specs.declared.errors.LinkError.TheVariants.{NoMemory, TooManyNodes, Missing, Unchained, Names}
use Rattle.linker.specs.Chains.{HasChain, AllChained, IsMissing, IsUnchained, Refusal}
use Rattle.linker.specs.Linked.{IsEnd, IsLinked, AreLinked, Tells}

module _ {A1 A2 A3 A4 A5 C1 C2 C3 C4 : Type 0} where
  -- the next function comes behind the first ones
  pub linked_next : (functions : List (code.Named A1)) (named : List (Named (Parts A1 A2 C1) (Parts A2 A3 C2) (Parts A3 A4 C3) (Parts A4 A5 C4))) (n : ℕ) (all_made : List (code.Named A5)) (f : code.Named A1) (m : Named (Parts A1 A2 C1) (Parts A2 A3 C2) (Parts A3 A4 C3) (Parts A4 A5 C4)) (made : code.Named A5)
      → n < length functions → n < length named → f ≡ get_or functions n f → m ≡ get_or named n m
      → AreLinked (take n functions) (take n named) all_made → IsLinked f m made
      → AreLinked (take (suc n) functions) (take (suc n) named) (all_made ++ made ∷ [])
  linked_next [] named n all_made f m made below below' ef em are is = absurd (omega (arith, below))
  linked_next (x ∷ functions) [] n all_made f m made below below' ef em are is = absurd (omega (arith, below'))
  linked_next (x ∷ functions) (y ∷ named) zero [] f m made below below' ef em are is =
      (subst (λ g. IsLinked g y made) ef (subst (λ o. IsLinked f o made) em is), tt)
  linked_next (x ∷ functions) (y ∷ named) zero (g ∷ all_made) f m made below below' ef em are is = absurd are
  linked_next (x ∷ functions) (y ∷ named) (suc n) [] f m made below below' ef em are is = absurd are
  linked_next (x ∷ functions) (y ∷ named) (suc n) (g ∷ all_made) f m made below below' ef em are is =
      (are.0, linked_next functions named n all_made f m made (omega (arith, below)) (omega (arith, below')) ef em are.1 is)

  -- what is linked stays so along equations
  pub linked_along : (functions functions' : List (code.Named A1)) (named : List (Named (Parts A1 A2 C1) (Parts A2 A3 C2) (Parts A3 A4 C3) (Parts A4 A5 C4))) (all_made all_made' : List (code.Named A5)) → functions ≡ functions' → all_made' ≡ all_made
      → AreLinked functions named all_made → AreLinked functions' named all_made'
  linked_along functions functions' named all_made all_made' e e' are = subst (λ fs. AreLinked fs named all_made') e (subst (λ gs. AreLinked functions named gs) (sym e') are)

  pub has_chain : (f : A1) (chain : Option (Chain (Parts A1 A2 C1) (Parts A2 A3 C2) (Parts A3 A4 C3) (Parts A4 A5 C4))) (end : A5) → IsEnd f chain end → HasChain f chain
  has_chain f None end is = is
  has_chain f (Some chain) end is = is.chained

  -- what is linked is chained
  chained_front : (functions : List (code.Named A1)) (named : List (Named (Parts A1 A2 C1) (Parts A2 A3 C2) (Parts A3 A4 C3) (Parts A4 A5 C4))) (n : ℕ) (all_made : List (code.Named A5)) → AreLinked (take n functions) (take n named) all_made → AllChained (take n functions) (take n named)
  chained_front functions named zero all_made are = tt
  chained_front [] [] (suc n) all_made are = tt
  chained_front [] (y ∷ named) (suc n) all_made are = absurd are
  chained_front (x ∷ functions) [] (suc n) all_made are = absurd are
  chained_front (x ∷ functions) (y ∷ named) (suc n) [] are = absurd are
  chained_front (x ∷ functions) (y ∷ named) (suc n) (g ∷ all_made) are =
      (has_chain x.function y.chain g.function are.0.end, chained_front functions named n all_made are.1)

  module _ (functions : List (code.Named A1)) (named : List (Named (Parts A1 A2 C1) (Parts A2 A3 C2) (Parts A3 A4 C3) (Parts A4 A5 C4))) (n : ℕ) (f : code.Named A1) (m : Named (Parts A1 A2 C1) (Parts A2 A3 C2) (Parts A3 A4 C3) (Parts A4 A5 C4)) (before : AllChained (take n functions) (take n named)) (of : slice_get functions n ≡ Some f) (there : slice_get named n ≡ Some m) where
    missing_at : (chain : Option (Chain (Parts A1 A2 C1) (Parts A2 A3 C2) (Parts A3 A4 C3) (Parts A4 A5 C4))) (i : ℕ) → m.chain ≡ chain → Tells n f.function chain (Missing i) → IsMissing functions named i
    missing_at None i e told = subst (λ k. IsMissing functions named k) (sym told) (record { before = before; beside = m; there = there; missing = e })
    missing_at (Some chain) i e told = absurd told

    unchained_at : (chain : Option (Chain (Parts A1 A2 C1) (Parts A2 A3 C2) (Parts A3 A4 C3) (Parts A4 A5 C4))) (i : ℕ) → m.chain ≡ chain → Tells n f.function chain (Unchained i) → IsUnchained functions named i
    unchained_at None i e told = absurd told
    unchained_at (Some chain) i e told = subst (λ k. IsUnchained functions named k) (sym told.0) (record { before = before; function = f; beside = m; chain = chain; of = of; there = there; offered = e; broken = told.1 })

    refusal_at : (e : LinkError) → Tells n f.function m.chain e → Refusal functions named e
    refusal_at NoMemory told = tt
    refusal_at Names told = absurd told
    refusal_at (TooManyNodes i) told = absurd told
    refusal_at (Missing i) told = missing_at m.chain i refl told
    refusal_at (Unchained i) told = unchained_at m.chain i refl told

  -- behind linked functions the next one's fault is the first
  pub first_fault : (functions : List (code.Named A1)) (named : List (Named (Parts A1 A2 C1) (Parts A2 A3 C2) (Parts A3 A4 C3) (Parts A4 A5 C4))) (n : ℕ) (all_made : List (code.Named A5)) (f : code.Named A1) (m : Named (Parts A1 A2 C1) (Parts A2 A3 C2) (Parts A3 A4 C3) (Parts A4 A5 C4)) (e : LinkError)
      → n < length functions → n < length named → f ≡ get_or functions n f → m ≡ get_or named n m
      → AreLinked (take n functions) (take n named) all_made → Tells n f.function m.chain e
      → Refusal functions named e
  first_fault functions named n all_made f m e below below' ef em are told =
      let of : slice_get functions n ≡ Some f = slice_get-get_or functions n f below ∙ ap (λ g. Some g) (sym ef) in
      let there : slice_get named n ≡ Some m = slice_get-get_or named n m below' ∙ ap (λ g. Some g) (sym em) in
      refusal_at functions named n f m (chained_front functions named n all_made are) of there e told
