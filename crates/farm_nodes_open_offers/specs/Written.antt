-- The offers among a node's records, as they are written.
use Rattle.std.specs.Prelude.{ℕ, ◌==◌, ◌%◌, if◌then◌else◌, List, Option, Some, None, filter_map}
use Rattle.acceptor_log_form.specs.declared.record.Record.{Record}
use Rattle.acceptor_log_form.specs.declared.record.Record.TheVariants.{Offered}
use Rattle.farm_nodes_turn_passes.specs.declared.which.Which.{Which}
use Rattle.farm_nodes_turn_passes.specs.Numbers.{place_of}
pub use Rattle.farm_nodes_turn_passes.specs.OfferIn.{offer_by, last_offer_in}

-- the room and the text of an offer, if the record is one in a room of the pass
abbrev pub written : Which → Record → Option (ℕ × List ℕ)
written pass (Offered room text) = if room % 4 == place_of pass then Some (room, text) else None
written pass _ = None

-- all offers of the pass, in the order of the records
abbrev pub all_written : Which → List Record → List (ℕ × List ℕ)
all_written pass rs = filter_map (written pass) rs
