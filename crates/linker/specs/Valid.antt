-- What the type of offers keeps of the offers of a chain.
use Rattle.std.specs.Prelude.{List, IfSome}
use Rattle.std.specs.List.{AllByRecursion}
use Rattle.offers.specs.declared.parts.Parts.{Parts}
use Rattle.linker.specs.declared.chain.Chain.{Chain}
use Rattle.linker.specs.declared.chain.Named.{Named}

module _ {A1 A2 A3 A4 A5 C1 C2 C3 C4 : Type 0} where
  -- the input and the output of each of the four offers are functions of the languages of its pass
  pub record AreFit (Fits1 : A1 → Type 0) (Fits2 : A2 → Type 0) (Fits3 : A3 → Type 0) (Fits4 : A4 → Type 0) (Fits5 : A5 → Type 0)
      (chain : Chain (Parts A1 A2 C1) (Parts A2 A3 C2) (Parts A3 A4 C3) (Parts A4 A5 C4)) : Type 0 where
    pub first : Fits1 chain.first.now.input × Fits2 chain.first.now.output
    pub second : Fits2 chain.second.now.input × Fits3 chain.second.now.output
    pub third : Fits3 chain.third.now.input × Fits4 chain.third.now.output
    pub fourth : Fits4 chain.fourth.now.input × Fits5 chain.fourth.now.output

  -- each pass accepts its offer
  pub record AreAccepted (Accepts1 : A1 → A2 → C1 → Type 0) (Accepts2 : A2 → A3 → C2 → Type 0) (Accepts3 : A3 → A4 → C3 → Type 0) (Accepts4 : A4 → A5 → C4 → Type 0)
      (chain : Chain (Parts A1 A2 C1) (Parts A2 A3 C2) (Parts A3 A4 C3) (Parts A4 A5 C4)) : Type 0 where
    pub first : Accepts1 chain.first.now.input chain.first.now.output chain.first.now.certificate
    pub second : Accepts2 chain.second.now.input chain.second.now.output chain.second.now.certificate
    pub third : Accepts3 chain.third.now.input chain.third.now.output chain.third.now.certificate
    pub fourth : Accepts4 chain.fourth.now.input chain.fourth.now.output chain.fourth.now.certificate

  -- so it is of each chain that stands beside a name
  abbrev pub EachChain : (Chain (Parts A1 A2 C1) (Parts A2 A3 C2) (Parts A3 A4 C3) (Parts A4 A5 C4) → Type 0)
      → List (Named (Parts A1 A2 C1) (Parts A2 A3 C2) (Parts A3 A4 C3) (Parts A4 A5 C4)) → Type 0
  EachChain Is named = AllByRecursion (λ n. IfSome n.chain Is) named
