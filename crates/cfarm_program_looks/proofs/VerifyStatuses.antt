-- Each status of `verify` is at most 7.
use Rattle.std.specs.Prelude.{ℕ, zero, suc, ◌≤◌}
use Rattle.std.proofs.Common.{arith}
use Rattle.lang_base.specs.declared.errors.FormError.{FormError}
use Rattle.lang_base.specs.declared.errors.FormError.TheVariants as form
use Rattle.cfarm_output.specs.Lines.{form_status_of}
use Rattle.farm_nodes_source.specs.Told as source
use Rattle.cfarm_judge.specs.OfferFault.{OfferFault}
use Rattle.cfarm_judge.specs.OfferFault.TheVariants as offer
use Rattle.cfarm_verify.specs.Lines.{fault_status_of, status_of, unless_memory}
use Rattle.cfarm_verify.specs.declared.error.VerifyError.{VerifyError}
use Rattle.cfarm_verify.specs.declared.error.VerifyError.TheVariants as verify

unless : (n : ℕ) → unless_memory n 1 ≤ 7
unless zero = omega arith
unless (suc zero) = omega arith
unless (suc (suc n)) = omega arith

form_in_table : (fault : FormError) → form_status_of fault ≤ 7
form_in_table form.NoMemory = omega arith
form_in_table form.Short = omega arith
form_in_table form.BadTag = omega arith
form_in_table form.NotCanonical = omega arith
form_in_table form.TooLarge = omega arith

offer_in_table : (fault : OfferFault) → fault_status_of fault ≤ 7
offer_in_table offer.NoMemory = omega arith
offer_in_table (offer.Unchained pass) = omega arith
offer_in_table (offer.Refused pass fault) = omega arith

pub in_table : (fault : VerifyError) → status_of fault ≤ 7
in_table verify.NoMemory = omega arith
in_table (verify.Source fault) = unless (source.number_of fault)
in_table (verify.Program fault) = form_in_table fault
in_table (verify.Bundle fault) = form_in_table fault
in_table verify.OtherSource = omega arith
in_table verify.ProgramNames = omega arith
in_table verify.BundleNames = omega arith
in_table (verify.Offer fault name) = offer_in_table fault
in_table (verify.OtherFunction name) = omega arith
in_table verify.OtherGlobals = omega arith
in_table verify.Write = omega arith
