-- What is known as the offers of functions, of what stands among a node's records.
use Rattle.std.specs.Prelude.{◌≡◌, ℕ, ◌<◌, List, Option, Some, slice_get, is_some}
use Rattle.lang_base.specs.declared.language.Language as language
use Rattle.lang_base.specs.declared.pass.Pass as pass
use Rattle.acceptor_log_form.specs.declared.record.Record.{Record}
use Rattle.acceptor_log_form.specs.Leaves.{kept_in}
use Rattle.offers.specs.declared.parts.Parts.{Parts}
use Rattle.farm_nodes_turn_passes.specs.declared.which.Which.{Which}
use Rattle.farm_nodes_turn_passes.specs.Numbers.{room_at}
use Rattle.farm_nodes_open_offers.specs.declared.storing.Stored.{Stored}
use Rattle.farm_nodes_open_offers.specs.Known.{AreKnown}
use Rattle.farm_nodes_open_offers.specs.Stored.{IsStored, IsStoredText}
use Rattle.farm_nodes_open_offers.specs.Written.{last_offer_in}

module _ {P A B C I O : Type 0} (from : language.Ghosts A I) (to : language.Ghosts B O) (by : pass.Ghosts P A B C I O) where
  -- so it is of a function's number and its offer, of each function whose offers are known from the records
  abbrev pub OfKnown : (Which → List Record → ℕ → Option (Parts I O C) → Type 0) → Type 0
  OfKnown Holds =
      (which : Which) (rs : List Record) (functions : ℕ) (stored : Stored (Parts I O C)) (offers : List (Option (Parts I O C)))
      → IsStored from to by which rs stored → AreKnown functions stored offers
      → (f : ℕ) → f < functions → (offer : Option (Parts I O C)) → slice_get offers f ≡ Some offer → Holds which rs f offer

  -- the offer is what stands in the function's room among them
  abbrev pub KnownAreWritten : Type 0
  KnownAreWritten = OfKnown (λ which rs f offer. IsStoredText from to by (last_offer_in rs (room_at f which)) offer)

  -- the node has kept that it offered in that room exactly where there is one
  abbrev pub KnownAreKept : Type 0
  KnownAreKept = OfKnown (λ which rs f offer. (kept_in rs (room_at f which)).offered ≡ is_some offer)
