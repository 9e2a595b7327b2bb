-- What a node puts down of a step before it takes it.
use Rattle.std.specs.Prelude.{ℕ, List, [], ◌∷◌}
use Rattle.acceptor_log_form.specs.declared.record.Record.{Record}
use Rattle.rooms_crash.specs.SeatState.{SeatState}
use Rattle.rooms_crash.specs.Would.{would, IsAmong}
pub use Rattle.farm_nodes_turn_order.specs.Recorded.{record_of, records_of, IsByte}
use Rattle.farm_nodes_turn_step.specs.declared.stop.Pending.{Pending}
use Rattle.farm_nodes_turn_step.specs.declared.stop.Pending.TheVariants.{Act, Offer}

-- The record that a stopped node may have put down of what it has not done: the step that its seat would take, or
-- the offer.
abbrev pub pending_of : ℕ → SeatState → Pending → List Record
pending_of room s (Act a) = records_of room (would s a)
pending_of room s (Offer r) = r ∷ []

-- it was about to act, and was asked of a node of n
abbrev pub IsActAmong : ℕ → Pending → Type 0
IsActAmong n (Act a) = IsAmong n a
IsActAmong n (Offer r) = ⊥
