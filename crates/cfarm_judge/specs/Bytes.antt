-- Bytes that are no written offer of any pass.
use Rattle.std.specs.Prelude.{◌≡◌, ◌≢◌, ℕ, List, [], ◌∷◌, ◌++◌, Option, Some, None}
use Rattle.lang_base.specs.declared.errors.FormError.{FormError}
use Rattle.lang_base.specs.declared.errors.FormError.TheVariants as form
use Rattle.bundle_offers.specs.declared.fault.PassNumber.{PassNumber}
use Rattle.cfarm_judge.specs.Passes.{byte_of, FitsAt, PartsAt, text_at}

-- the pass of this first byte, or that it is no pass's
abbrev pub PassHas : ℕ → Option PassNumber → Type 0
PassHas first None = (pass : PassNumber) → first ≢ byte_of pass
PassHas first (Some pass) = first ≡ byte_of pass

-- the bytes begin as the offers of this pass do
abbrev pub BeginsFor : List ℕ → PassNumber → Type 0
BeginsFor [] pass = ⊥
BeginsFor (first ∷ rest) pass = first ≡ byte_of pass

-- there are no bytes, or the first is no pass's
abbrev pub BeginsNoOffer : List ℕ → FormError → Type 0
BeginsNoOffer [] fault = fault ≡ form.Short
BeginsNoOffer (first ∷ rest) fault = (fault ≡ form.BadTag) × ((pass : PassNumber) → first ≢ byte_of pass)

-- The bytes are the text of no offer of any pass; and which fault that is where there are none, where the first of them is no
-- pass's, and where bytes stand behind a text.
pub record IsNoOffer (bytes : List ℕ) (fault : FormError) : Type 0 where
  pub none : (pass : PassNumber) (parts : PartsAt pass) → FitsAt pass parts → bytes ≢ text_at pass parts
  pub empty : bytes ≡ [] → fault ≡ form.Short
  pub tag : (first : ℕ) (rest : List ℕ) → bytes ≡ first ∷ rest → ((pass : PassNumber) → first ≢ byte_of pass) → fault ≡ form.BadTag
  pub behind : (pass : PassNumber) (parts : PartsAt pass) (first : ℕ) (rest : List ℕ) → FitsAt pass parts → bytes ≡ text_at pass parts ++ first ∷ rest → fault ≡ form.NotCanonical
