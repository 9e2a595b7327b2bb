-- What is told of bytes and a function, where no pass accepts them.
use Rattle.std.specs.Prelude.{◌≢◌, ℕ, List}
use Rattle.lang_base.specs.declared.errors.FormError.TheVariants as form
use Rattle.rtl_language.specs.Function.{FunctionData}
use Rattle.bundle_offers.specs.declared.fault.PassNumber.TheVariants.{First}
use Rattle.cfarm_judge.specs.Bytes.{IsNoOffer}
use Rattle.cfarm_judge.specs.Passes.{IsNotPassedAt}
use Rattle.cfarm_judge.specs.declared.error.JudgeError.{JudgeError}
use Rattle.cfarm_judge.specs.declared.error.JudgeError.TheVariants.{NoMemory, Form, Unchained, Refused}

-- The bytes are no offer; or they are one of pass 1 whose input is not the function; or they are one that its pass does not accept.
abbrev pub IsNotJudged : FunctionData → List ℕ → JudgeError → Type 0
IsNotJudged f bytes NoMemory = Unit {0}
IsNotJudged f bytes (Form fault) = fault ≢ form.NoMemory → IsNoOffer bytes fault
IsNotJudged f bytes Unchained = IsNotPassedAt f bytes First Unchained
IsNotJudged f bytes (Refused pass fault) = IsNotPassedAt f bytes pass (Refused pass fault)
IsNotJudged f bytes other = ⊥
