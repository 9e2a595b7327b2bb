-- What was made ready is so with the text's digest.
use Rattle.std.proofs.Common.{◌≡◌, ℕ, List, Result, Ok, Err}
use Rattle.std.specs.Prelude.{IfOk, IfErr}
use Rattle.sha2.specs.Sha256.{sha256}
use Rattle.farm_nodes_source.specs.declared.fault.SourceFault.{SourceFault}
use Rattle.cfarm_verify_reading.specs.declared.begun.Begun.{Begun}
use Rattle.cfarm_verify_reading.specs.Found.{IsBegunOf, IsSourceOf, with_digest}

pub is_source : (text digest : List ℕ) (found : Result Begun SourceFault) → digest ≡ sha256 text → IfOk found (IsBegunOf text)
    → IfOk (with_digest digest found) (IsSourceOf text)
is_source text digest (Ok b) same is =
    record { accepted = is.accepted; translated = is.translated; keeps = is.keeps; digest = same; fits = is.fits; only = is.only }
is_source text digest (Err fault) same is = tt

pub is_refused : (P : SourceFault → Type 0) (digest : List ℕ) (found : Result Begun SourceFault) → IfErr found P → IfErr (with_digest digest found) P
is_refused P digest (Ok b) is = tt
is_refused P digest (Err fault) is = is
