-- The text of bytes that are the text of a bound.
use Rattle.std.specs.Prelude.{Result, Ok, Err, IfOk, IsOkAnd}
use Rattle.std.proofs.Common.{◌≡◌, ◌⊎◌, ℕ, List, [], inl, inr, ◌∙◌}

pub bound_told : {T E : Type 0} (told : Result T E) (items : T → List ℕ) (text shown : List ℕ) →
    (shown ≡ []) ⊎ IsOkAnd told (λ t. shown ≡ items t) → IfOk told (λ t. items t ≡ text) → (shown ≡ []) ⊎ (shown ≡ text)
bound_told (Ok t) items text shown (inl nothing) is = inl nothing
bound_told (Ok t) items text shown (inr same) is = inr (same ∙ is)
bound_told (Err e) items text shown (inl nothing) is = inl nothing
bound_told (Err e) items text shown (inr none) is = absurd none
