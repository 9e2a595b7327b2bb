-- No hint is one of any fault.
use Rattle.std.specs.Prelude.{◌≡◌, ℕ, List, [], drop}
use Rattle.std.proofs.Common.{refl, inl}
use Rattle.c_hints.specs.Hints.{IsHint}

pub unhinted : (text : List ℕ) (at number : ℕ) (hint : List ℕ) → hint ≡ [] → IsHint text at number hint
unhinted text at number hint none = ([], (drop at text, refl), inl none)
