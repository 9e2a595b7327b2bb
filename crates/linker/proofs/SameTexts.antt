-- Equal texts are of equal functions, so where neighbours have equal texts the offers chain.
use Rattle.std.proofs.Common.{◌≡◌, ℕ, zero, suc, ◌+◌, ◌<◌, List, [], ◌∷◌, ◌++◌, length, get_or, ap, subst, sym, ◌∙◌, refl, arith, inl, inr}
use Rattle.std.proofs.lemmas.Bool.{cases_eq}
use Rattle.std.proofs.lemmas.List.{get_or_default}
use Rattle.offers.specs.declared.parts.Parts.{Parts}
use Rattle.lang_base.specs.declared.program.Named as code
use Rattle.linker.specs.declared.chain.Chain.{Chain}
use Rattle.linker.specs.declared.chain.Named.{Named}
use Rattle.linker.specs.Chains.{IsChain, HasChain, AllChained}
use Rattle.linker.specs.Texts.{IsTextChain, HasTextChain, AllTextChained}
use Rattle.linker.specs.Valid.{AreFit}

-- no text is a beginning of another, and no two functions share one
abbrev pub HasOneText : {A : Type 0} → (A → Type 0) → (A → List ℕ) → Type 0
HasOneText {A} Fits text = (a b : A) (x y : List ℕ) → Fits a → Fits b → text a ++ x ≡ text b ++ y → (a ≡ b) × (x ≡ y)

same : {A : Type 0} (Fits : A → Type 0) (text : A → List ℕ) (a b : A) → HasOneText Fits text → Fits a → Fits b → text a ≡ text b → a ≡ b
same Fits text a b one fits_a fits_b e = (one a b [] [] fits_a fits_b (ap (λ t. t ++ []) e)).0

module _ {A1 A2 A3 A4 A5 C1 C2 C3 C4 : Type 0} (Fits1 : A1 → Type 0) (Fits2 : A2 → Type 0) (Fits3 : A3 → Type 0) (Fits4 : A4 → Type 0) (Fits5 : A5 → Type 0)
    (text1 : A1 → List ℕ) (text2 : A2 → List ℕ) (text3 : A3 → List ℕ) (text4 : A4 → List ℕ)
    (one1 : HasOneText Fits1 text1) (one2 : HasOneText Fits2 text2) (one3 : HasOneText Fits3 text3) (one4 : HasOneText Fits4 text4) where
  pub chained_by_texts : (start : A1) (chain : Chain (Parts A1 A2 C1) (Parts A2 A3 C2) (Parts A3 A4 C3) (Parts A4 A5 C4)) → Fits1 start
      → AreFit Fits1 Fits2 Fits3 Fits4 Fits5 chain
      → IsTextChain text1 text2 text3 text4 start chain → IsChain start chain
  chained_by_texts start chain fits are texts = record {
    first = same Fits1 text1 chain.first.now.input start one1 are.first.0 fits texts.first;
    second = same Fits2 text2 chain.second.now.input chain.first.now.output one2 are.second.0 are.first.1 texts.second;
    third = same Fits3 text3 chain.third.now.input chain.second.now.output one3 are.third.0 are.second.1 texts.third;
    fourth = same Fits4 text4 chain.fourth.now.input chain.third.now.output one4 are.fourth.0 are.third.1 texts.fourth;
  }

module _ {A1 A2 A3 A4 A5 C1 C2 C3 C4 : Type 0} (text1 : A1 → List ℕ) (text2 : A2 → List ℕ) (text3 : A3 → List ℕ) (text4 : A4 → List ℕ) where
  -- at each of the first places, where the texts are equal, the offers chain
  abbrev pub FollowBefore : List (code.Named A1) → List (Named (Parts A1 A2 C1) (Parts A2 A3 C2) (Parts A3 A4 C3) (Parts A4 A5 C4)) → ℕ → Type 0
  FollowBefore functions named n =
      (k : ℕ) (f : code.Named A1) (m : Named (Parts A1 A2 C1) (Parts A2 A3 C2) (Parts A3 A4 C3) (Parts A4 A5 C4)) → k < n → k < length functions → k < length named
      → HasTextChain text1 text2 text3 text4 (get_or functions k f).function (get_or named k m).chain → HasChain (get_or functions k f).function (get_or named k m).chain

  -- so do all
  pub all_follow : (functions : List (code.Named A1)) (named : List (Named (Parts A1 A2 C1) (Parts A2 A3 C2) (Parts A3 A4 C3) (Parts A4 A5 C4))) (n : ℕ) → length functions ≡ n → FollowBefore functions named n
      → AllTextChained text1 text2 text3 text4 functions named → AllChained functions named
  all_follow [] [] n e follow texts = tt
  all_follow [] (y ∷ named) n e follow texts = absurd texts
  all_follow (x ∷ functions) [] n e follow texts = absurd texts
  all_follow (x ∷ functions) (y ∷ named) zero e follow texts = absurd (omega (arith, e))
  all_follow (x ∷ functions) (y ∷ named) (suc n) e follow texts = (
    follow zero x y (omega arith) (omega arith) (omega arith) texts.0,
    all_follow functions named n (omega (arith, e)) (λ k f m below in_functions in_named. follow (suc k) f m (omega (arith, below)) (omega (arith, in_functions)) (omega (arith, in_named))) texts.1,
  )

  -- one place more
  pub follow_next : (functions : List (code.Named A1)) (named : List (Named (Parts A1 A2 C1) (Parts A2 A3 C2) (Parts A3 A4 C3) (Parts A4 A5 C4))) (n : ℕ) (f : code.Named A1) (m : Named (Parts A1 A2 C1) (Parts A2 A3 C2) (Parts A3 A4 C3) (Parts A4 A5 C4))
      → n < length functions → n < length named → FollowBefore functions named n
      → (HasTextChain text1 text2 text3 text4 (get_or functions n f).function (get_or named n m).chain → HasChain (get_or functions n f).function (get_or named n m).chain)
      → FollowBefore functions named (n + 1)
  follow_next functions named n f m in_functions in_named before next k f' m' below here_functions here_named =
      elim (cases_eq k n) [
        | inl here ↦
            let is_function : get_or functions k f' ≡ get_or functions n f = ap (λ j. get_or functions j f') here ∙ get_or_default functions n f' f in_functions in
            let is_named : get_or named k m' ≡ get_or named n m = ap (λ j. get_or named j m') here ∙ get_or_default named n m' m in_named in
            subst (λ g. HasTextChain text1 text2 text3 text4 g.function (get_or named k m').chain → HasChain g.function (get_or named k m').chain) (sym is_function)
            (subst (λ o. HasTextChain text1 text2 text3 text4 (get_or functions n f).function o.chain → HasChain (get_or functions n f).function o.chain) (sym is_named) next)
        | inr other ↦ before k f' m' (omega (arith, below, other)) here_functions here_named
      ]

  -- there are as many names as functions
  pub as_many : (functions : List (code.Named A1)) (named : List (Named (Parts A1 A2 C1) (Parts A2 A3 C2) (Parts A3 A4 C3) (Parts A4 A5 C4)))
      → AllTextChained text1 text2 text3 text4 functions named → length functions ≡ length named
  as_many [] [] texts = refl
  as_many [] (y ∷ named) texts = absurd texts
  as_many (x ∷ functions) [] texts = absurd texts
  as_many (x ∷ functions) (y ∷ named) texts = ap suc (as_many functions named texts.1)
