pub mod Played
pub mod Logged
pub use Rattle.farm_nodes_turn_leading.specs.Leading
pub use Rattle.farm_nodes_turn_offer.specs.OfRun
pub use Rattle.farm_nodes_turn_offer.specs.JournalAdvances
pub use Rattle.farm_nodes_turn_offer.specs.Quiet
pub use Rattle.farm_nodes_turn_offer.specs.Served
pub use Rattle.farm_nodes_turn_offer.specs.FarmNodesTurnStepPending as Pending
pub use Rattle.farm_nodes_turn_offer.specs.SeatValue
pub use Rattle.farm_nodes_turn_offer.specs.Halted
pub use Rattle.farm_nodes_turn_offer.specs.Ordered
pub use Rattle.farm_nodes_turn_offer.specs.Told
pub use Rattle.farm_nodes_turn_offer.specs.declared.halt.Fault
pub use Rattle.farm_nodes_turn_offer.specs.declared.halt.Halt
pub use Rattle.rooms_seat_state.specs.SeatState
pub use Rattle.rooms_seat_state.specs.Would
pub use Rattle.rooms_seat_state.specs.declared.act.SeatAct
