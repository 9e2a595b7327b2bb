-- The numbers and the names of what is wrong with an offer of a file.
use Rattle.std.specs.Prelude.{ℕ, List, Option, None, Some, codes}
use Rattle.lang_base.specs.declared.errors.FormError.{FormError}
use Rattle.lang_base.specs.declared.errors.FormError.TheVariants as form
use Rattle.cfarm_build_offers.specs.declared.fault.GivenFault.{GivenFault}
use Rattle.cfarm_build_offers.specs.declared.fault.GivenFault.TheVariants.{Device, Short, BadTag, NotCanonical, TooLarge, Refused, Unchained}

abbrev pub fault_of : FormError → Option GivenFault
fault_of form.NoMemory = None
fault_of form.Short = Some Short
fault_of form.BadTag = Some BadTag
fault_of form.NotCanonical = Some NotCanonical
fault_of form.TooLarge = Some TooLarge

abbrev pub number_of : GivenFault → ℕ
number_of Short = 101
number_of BadTag = 102
number_of NotCanonical = 103
number_of TooLarge = 104
number_of Refused = 301
number_of Device = 401
number_of Unchained = 602

abbrev pub name_of : GivenFault → List ℕ
name_of Short = codes "Short"
name_of BadTag = codes "BadTag"
name_of NotCanonical = codes "NotCanonical"
name_of TooLarge = codes "TooLarge"
name_of Refused = codes "Refused"
name_of Device = codes "Device"
name_of Unchained = codes "Unchained"
