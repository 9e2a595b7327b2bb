-- What is printed of what was found.
use Rattle.std.proofs.Common.{◌≡◌, ℕ, List, [], Option, Some, None, Result, Ok, Err, refl, sym, ap, subst, ◌∙◌}
use Rattle.std.proofs.lemmas.List.{append-nil}
use Rattle.std.specs.Io.KnownBytes.{Appends}
use Rattle.std.specs.Prelude.{IfOk, IfErr}
use Rattle.hex.specs.Hex.{encode_lower}
use Rattle.sha2.specs.Sha256.{sha256}
use Rattle.cfarm_verify.specs.Answered.{IsAnswer, IsLineFor}
use Rattle.cfarm_verify.specs.Lines.{line_with, verified_line}
use Rattle.cfarm_verify.specs.Told.{IsUnverified, IsVerified, Printed}
use Rattle.cfarm_verify.specs.declared.error.VerifyError.{VerifyError}
use Rattle.cfarm_verify.specs.declared.error.VerifyError.TheVariants.{NoMemory, Source, Program, Bundle, OtherSource, ProgramNames, BundleNames, Offer, OtherFunction, OtherGlobals, Write}

module _ {S E : Type 0} (bytes : S → List ℕ) where
  pub answer_is : (text program bundle : List ℕ) (found : Result ℕ VerifyError) (digits : Result S E) (answer : Result S VerifyError)
      → IsLineFor bytes found digits answer → IfOk digits (λ d. bytes d ≡ encode_lower (sha256 program)) → IfOk found (IsVerified text program bundle)
      → IfOk answer (λ line. IsAnswer text program bundle (bytes line))
  answer_is text program bundle (Err fault) digits (Ok line) is hashed verified = absurd (cc is)
  answer_is text program bundle (Err fault) digits (Err told) is hashed verified = tt
  answer_is text program bundle (Ok n) (Err refused) (Ok line) is hashed verified = absurd (cc is)
  answer_is text program bundle (Ok n) (Err refused) (Err told) is hashed verified = tt
  answer_is text program bundle (Ok n) (Ok d) (Ok line) is hashed verified = (n, verified, is ∙ ap (λ l. line_with n l) hashed)
  answer_is text program bundle (Ok n) (Ok d) (Err told) is hashed verified = tt

  pub fault_is : (P : VerifyError → Type 0) → P NoMemory → (found : Result ℕ VerifyError) (digits : Result S E) (answer : Result S VerifyError)
      → IsLineFor bytes found digits answer → IfErr found P → IfErr answer P
  fault_is P memory (Err fault) digits (Ok line) is told = tt
  fault_is P memory (Err fault) digits (Err e) is told = let same : e ≡ fault = cc is in subst P (sym same) told
  fault_is P memory (Ok n) (Err refused) (Ok line) is told = tt
  fault_is P memory (Ok n) (Err refused) (Err e) is told = let same : e ≡ NoMemory = cc is in subst P (sym same) memory
  fault_is P memory (Ok n) (Ok d) (Ok line) is told = tt
  fault_is P memory (Ok n) (Ok d) (Err e) is told = subst P (sym is) memory

-- where there is no answer nothing was printed
stays : (held : Option (List ℕ)) → Appends held held []
stays None = tt
stays (Some xs) = sym (append-nil xs)

module _ (text program bundle : List ℕ) (held : Option (List ℕ)) where
  pub unprinted : (fault : VerifyError) → IsUnverified text program bundle fault → Printed text program bundle fault held held
  unprinted NoMemory told = refl
  unprinted (Source fault) told = refl
  unprinted (Program fault) told = refl
  unprinted (Bundle fault) told = refl
  unprinted OtherSource told = refl
  unprinted ProgramNames told = refl
  unprinted BundleNames told = refl
  unprinted (Offer fault name) told = refl
  unprinted (OtherFunction name) told = refl
  unprinted OtherGlobals told = refl
  unprinted Write told = (told.0, told.1, ([], (verified_line told.0 program, refl), stays held))
