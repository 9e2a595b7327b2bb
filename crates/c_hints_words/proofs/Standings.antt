-- What stands at a place, by what is taken from a text.
use Rattle.std.specs.Prelude.{◌≡◌, ◌⊎◌, ℕ, List, [], ◌++◌, drop, take}
use Rattle.std.proofs.Common.{ap, subst, sym, inl, inr, ◌∙◌}
use Rattle.std.proofs.lemmas.List.{take-append-drop}
use Rattle.c_hints_words.specs.Standing.{StandsAt}

module _ (text : List ℕ) (at : ℕ) where
  pub taken : (n : ℕ) (bytes : List ℕ) → bytes ≡ take n (drop at text) → StandsAt text at bytes
  taken n bytes e =
      let rest = drop n (drop at text) in
      (rest, sym (ap (λ b. b ++ rest) e ∙ take-append-drop n (drop at text)))

  pub none_stands : (bytes : List ℕ) → bytes ≡ [] → StandsAt text at bytes
  none_stands bytes e = (drop at text, sym (ap (λ b. b ++ drop at text) e))

  pub same_stands : (bytes other : List ℕ) → bytes ≡ other → StandsAt text at bytes → StandsAt text at other
  same_stands bytes other e stands = subst (StandsAt text at) e stands

  pub worded : (bytes word : List ℕ) → (word ≡ bytes) ⊎ (word ≡ []) → StandsAt text at bytes → StandsAt text at word
  worded bytes word (inl same) stands = same_stands bytes word (sym same) stands
  worded bytes word (inr none) stands = none_stands word none
