-- What is proposed of the offers of files.
use Rattle.std.specs.Prelude.{◌≡◌, ℕ, List, Option, Some, slice_get}
use Rattle.offers.specs.declared.parts.Parts.{Parts}
use Rattle.cfarm_build_offers.specs.declared.given.Given.{Given}

-- these are the output and the certificate of an offer for this input
abbrev pub HasTaken : {In Out Cert : Type 0} → Option (Parts In Out Cert) → In → Out × Cert → Type 0
HasTaken parts input proposed = parts ≡ Some (record { input = input; output = proposed.0; certificate = proposed.1 })

module _ {P In Out Cert InFun OutFun : Type 0} where
  -- They are those of a file that has the name of the function of this number.
  pub record IsOfFunction (number : ℕ) (input : InFun) (given : List (Given P In Out Cert InFun OutFun)) (proposed : OutFun × Cert) : Type 0 where
    pub place : ℕ
    pub file : Given P In Out Cert InFun OutFun
    pub stands : slice_get given place ≡ Some file
    pub named : file.number ≡ number
    pub parts : HasTaken file.parts input proposed
