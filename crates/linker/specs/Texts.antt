-- Chains whose neighbours have equal texts: the input of each offer is spelled as the output of the one before it, and the
-- input of the first as the function.
use Rattle.std.specs.Prelude.{◌≡◌, ℕ, List, [], ◌∷◌, Option, Some, None}
use Rattle.lang_base.specs.declared.program.Named as code
use Rattle.offers.specs.declared.parts.Parts.{Parts}
use Rattle.linker.specs.declared.chain.Chain.{Chain}
use Rattle.linker.specs.declared.chain.Named.{Named}
use Rattle.linker.specs.Chains.{AllChained, HasChain, IsChain}

module _ {A1 A2 A3 A4 A5 C1 C2 C3 C4 : Type 0} (text1 : A1 → List ℕ) (text2 : A2 → List ℕ) (text3 : A3 → List ℕ) (text4 : A4 → List ℕ) where
  pub record IsTextChain (start : A1) (chain : Chain (Parts A1 A2 C1) (Parts A2 A3 C2) (Parts A3 A4 C3) (Parts A4 A5 C4)) : Type 0 where
    pub first : text1 chain.first.now.input ≡ text1 start
    pub second : text2 chain.second.now.input ≡ text2 chain.first.now.output
    pub third : text3 chain.third.now.input ≡ text3 chain.second.now.output
    pub fourth : text4 chain.fourth.now.input ≡ text4 chain.third.now.output

  -- there are four offers, and such texts
  abbrev pub HasTextChain : A1 → Option (Chain (Parts A1 A2 C1) (Parts A2 A3 C2) (Parts A3 A4 C3) (Parts A4 A5 C4)) → Type 0
  HasTextChain start None = ⊥
  HasTextChain start (Some chain) = IsTextChain start chain

  -- function by function
  abbrev pub AllTextChained : List (code.Named A1) → List (Named (Parts A1 A2 C1) (Parts A2 A3 C2) (Parts A3 A4 C3) (Parts A4 A5 C4)) → Type 0
  AllTextChained [] [] = Unit {0}
  AllTextChained [] (n ∷ named) = ⊥
  AllTextChained (f ∷ functions) [] = ⊥
  AllTextChained (f ∷ functions) (n ∷ named) = HasTextChain f.function n.chain × AllTextChained functions named

  -- where there are such texts the offers chain
  abbrev pub TextsChain : A1 → Chain (Parts A1 A2 C1) (Parts A2 A3 C2) (Parts A3 A4 C3) (Parts A4 A5 C4) → Type 0
  TextsChain start chain = IsTextChain start chain → IsChain start chain

  abbrev pub TextsChainBeside : A1 → Option (Chain (Parts A1 A2 C1) (Parts A2 A3 C2) (Parts A3 A4 C3) (Parts A4 A5 C4)) → Type 0
  TextsChainBeside start chain = HasTextChain start chain → HasChain start chain

  abbrev pub AllTextsChain : List (code.Named A1) → List (Named (Parts A1 A2 C1) (Parts A2 A3 C2) (Parts A3 A4 C3) (Parts A4 A5 C4)) → Type 0
  AllTextsChain functions named = AllTextChained functions named → AllChained functions named
