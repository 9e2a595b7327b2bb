-- What is left of each function in turn: the end of its chain, or a refusal.
use Rattle.std.specs.Prelude.{◌≡◌, ℕ, List, [], ◌∷◌, Option, Some, None}
use Rattle.offers.specs.declared.parts.Parts.{Parts}
use Rattle.lang_base.specs.declared.program.Named as code
use Rattle.linker.specs.declared.chain.Chain.{Chain}
use Rattle.linker.specs.declared.chain.Named.{Named}
use Rattle.linker.specs.declared.errors.LinkError.{LinkError}
use Rattle.linker.specs.declared.errors.LinkError.TheVariants.{NoMemory, TooManyNodes, Missing, Unchained, Names}
use Rattle.linker.specs.Chains.{IsChain}

module _ {A1 A2 A3 A4 A5 C1 C2 C3 C4 : Type 0} where
  -- the end of a chain from the function
  pub record EndsChain (start : A1) (chain : Chain (Parts A1 A2 C1) (Parts A2 A3 C2) (Parts A3 A4 C3) (Parts A4 A5 C4)) (end : A5) : Type 0 where
    pub chained : IsChain start chain
    pub same : end ≡ chain.fourth.now.output

  abbrev pub IsEnd : A1 → Option (Chain (Parts A1 A2 C1) (Parts A2 A3 C2) (Parts A3 A4 C3) (Parts A4 A5 C4)) → A5 → Type 0
  IsEnd start None end = ⊥
  IsEnd start (Some chain) end = EndsChain start chain end

  -- a function under the same name, the end of a chain from the first one
  pub record IsLinked (f : code.Named A1) (n : Named (Parts A1 A2 C1) (Parts A2 A3 C2) (Parts A3 A4 C3) (Parts A4 A5 C4)) (made : code.Named A5) : Type 0 where
    pub name : made.name ≡ f.name
    pub end : IsEnd f.function n.chain made.function

  -- function by function
  abbrev pub AreLinked : List (code.Named A1) → List (Named (Parts A1 A2 C1) (Parts A2 A3 C2) (Parts A3 A4 C3) (Parts A4 A5 C4)) → List (code.Named A5) → Type 0
  AreLinked [] [] [] = Unit {0}
  AreLinked [] [] (made ∷ all_made) = ⊥
  AreLinked [] (n ∷ named) all_made = ⊥
  AreLinked (f ∷ functions) [] all_made = ⊥
  AreLinked (f ∷ functions) (n ∷ named) [] = ⊥
  AreLinked (f ∷ functions) (n ∷ named) (made ∷ all_made) = IsLinked f n made × AreLinked functions named all_made

  -- why a function has no end of a chain
  abbrev pub Tells : ℕ → A1 → Option (Chain (Parts A1 A2 C1) (Parts A2 A3 C2) (Parts A3 A4 C3) (Parts A4 A5 C4)) → LinkError → Type 0
  Tells number start chain NoMemory = Unit {0}
  Tells number start chain Names = ⊥
  Tells number start chain (TooManyNodes function) = ⊥
  Tells number start None (Missing function) = function ≡ number
  Tells number start (Some chain) (Missing function) = ⊥
  Tells number start None (Unchained function) = ⊥
  Tells number start (Some chain) (Unchained function) = (function ≡ number) × (IsChain start chain → ⊥)
