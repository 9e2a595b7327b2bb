-- What is proposed is of the file where that stands.
use Rattle.std.proofs.Common.{◌≡◌, ℕ, List, Option, None, Some, slice_get, IfSome, ap, subst, ◌∙◌}
use Rattle.cfarm_build_offers.specs.declared.given.Given.{Given}
use Rattle.cfarm_build_offers.specs.Proposed.{HasTaken, IsOfFunction}

module _ {P In Out Cert InFun OutFun : Type 0} where
  -- the file that stands there has what is told of what stands there
  pub named_there : (told given : List (Given P In Out Cert InFun OutFun)) (place number : ℕ) (file : Given P In Out Cert InFun OutFun) → told ≡ given
      → slice_get given place ≡ Some file → IfSome (slice_get told place) (λ it. it.number ≡ number) → file.number ≡ number
  named_there told given place number file same stands named =
      subst (λ o. IfSome o (λ it. it.number ≡ number)) (ap (λ l. slice_get l place) same ∙ stands) named

  -- what was taken of a file that stands there is of the function
  pub of_function : (given : List (Given P In Out Cert InFun OutFun)) (place number : ℕ) (file : Given P In Out Cert InFun OutFun) (input : InFun)
      (taken : Option (OutFun × Cert)) → slice_get given place ≡ Some file → file.number ≡ number → IfSome taken (HasTaken file.parts input)
      → IfSome taken (IsOfFunction number input given)
  of_function given place number file input None stands named has = tt
  of_function given place number file input (Some proposed) stands named has =
      record { place = place; file = file; stands = stands; named = named; parts = has }
