-- The numbers that a user is shown beside the names of refusals, and the refusal that a fault of a form becomes.
use Rattle.std.specs.Prelude.{ℕ}
use Rattle.lang_base.specs.declared.errors.FormError.{FormError}
use Rattle.lang_base.specs.declared.errors.FormError.TheVariants as form
use Rattle.offers.specs.declared.errors.OfferError.{OfferError}
use Rattle.offers.specs.declared.errors.OfferError.TheVariants as offer

abbrev pub number_of : OfferError → ℕ
number_of offer.NoMemory = 1
number_of offer.Short = 101
number_of offer.BadTag = 102
number_of offer.NotCanonical = 103
number_of offer.TooLarge = 104
number_of offer.Refused = 301

abbrev pub refusal_of : FormError → OfferError
refusal_of form.NoMemory = offer.NoMemory
refusal_of form.Short = offer.Short
refusal_of form.BadTag = offer.BadTag
refusal_of form.NotCanonical = offer.NotCanonical
refusal_of form.TooLarge = offer.TooLarge
