-- What holds of the offers beside the first names, and of those beside one more.
use Rattle.std.proofs.Common.{◌≡◌, ℕ, ◌+◌, ◌<◌, ◌≤◌, List, length, get_or, arith}
use Rattle.std.specs.Prelude.{IfSome}
use Rattle.std.specs.List.{AllWithin}
use Rattle.std.proofs.lemmas.List.Elements.{All-from_all_within, AllWithin-more, AllWithin-upto, at_read, recursion_from_All}
use Rattle.offers.specs.declared.parts.Parts.{Parts}
use Rattle.linker.specs.declared.chain.Chain.{Chain}
use Rattle.linker.specs.declared.chain.Named.{Named}
use Rattle.linker.specs.Valid.{EachChain}

module _ {A1 A2 A3 A4 A5 C1 C2 C3 C4 : Type 0} (Is : Chain (Parts A1 A2 C1) (Parts A2 A3 C2) (Parts A3 A4 C3) (Parts A4 A5 C4) → Type 0) where
  abbrev Beside : Type 0
  Beside = Named (Parts A1 A2 C1) (Parts A2 A3 C2) (Parts A3 A4 C3) (Parts A4 A5 C4)

  abbrev IsBeside : Beside → Type 0
  IsBeside n = IfSome n.chain Is

  abbrev pub EachBefore : List Beside → ℕ → Type 0
  EachBefore named n = AllWithin IsBeside named 0 n

  pub none_yet : (named : List Beside) → EachBefore named 0
  none_yet named = λ k d low high. absurd (omega (arith, high))

  pub one_more : (named : List Beside) (n : ℕ) (m : Beside) → n < length named → m ≡ get_or named n m → EachBefore named n → IfSome m.chain Is → EachBefore named (n + 1)
  one_more named n m inside read before here = AllWithin-more IsBeside named 0 n before (at_read named IsBeside n m inside read here)

  pub all_of : (named : List Beside) (n : ℕ) → length named ≤ n → EachBefore named n → EachChain Is named
  all_of named n over before = recursion_from_All IsBeside named (All-from_all_within IsBeside named (AllWithin-upto IsBeside named 0 n (length named) over before))
