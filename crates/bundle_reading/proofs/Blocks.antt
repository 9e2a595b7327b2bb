-- What is written of offers are blocks, and their lengths can be said.
use Rattle.std.proofs.Common.{ℕ, suc, ◌<◌, List, [], ◌∷◌, All, get_or}
use Rattle.std.specs.List.{AllByRecursion}
use Rattle.std.proofs.lemmas.List.Elements.{All-nil, All-cons}
use Rattle.bundle_form.specs.declared.bundle.Texts.{Texts}
use Rattle.bundle_form.specs.Form.{AreBytes, AreShort, TextsFit}

-- bytes place by place are bytes
pub each_byte : (bytes : List ℕ) → ((i : ℕ) → get_or bytes i 0 < 256) → AreBytes bytes
each_byte [] are = tt
each_byte (b ∷ bytes) are = (are 0, each_byte bytes (λ i. are (suc i)))

are_short : (t : Texts) → TextsFit t → AreShort t
are_short t fits = record { constants = fits.constants.short; expressions = fits.expressions.short; allocation = fits.allocation.short; order = fits.order.short }

pub all_short : (ts : List Texts) → AllByRecursion TextsFit ts → All AreShort ts
all_short [] fits = All-nil _
all_short (t ∷ ts) fits = All-cons AreShort t ts (are_short t fits.0) (all_short ts fits.1)
