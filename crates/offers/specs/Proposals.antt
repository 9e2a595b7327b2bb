-- What a pass makes of a proposal.
use Rattle.std.specs.Prelude.{◌≡◌, Bool, false, Option, Some, None}
use Rattle.offers.specs.declared.parts.Parts.{Parts}

-- there is a proposal, and the pass accepts it
abbrev pub IsAcceptable : {I O C : Type 0} → (I → O → C → Type 0) → I → Option (O × C) → Type 0
IsAcceptable Accepts input None = ⊥
IsAcceptable Accepts input (Some proposal) = Accepts input proposal.0 proposal.1

-- the offer's output and certificate are those proposed
abbrev pub IsProposed : {I O C : Type 0} → Option (O × C) → Parts I O C → Type 0
IsProposed proposal offer = proposal ≡ Some (offer.output, offer.certificate)

-- where the offer is no proposal it is the baseline of its input
abbrev pub IsElseBaseline : {I O C : Type 0} → (I → O → C → Type 0) → Bool → Parts I O C → Type 0
IsElseBaseline IsBaseline is_proposal offer = is_proposal ≡ false → IsBaseline offer.input offer.output offer.certificate
