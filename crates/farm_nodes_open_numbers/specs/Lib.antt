pub mod Numbered
pub mod Kept
pub mod Left
pub mod StaySettled
pub use Rattle.farm_nodes_turn_passes.specs.OfRun
pub use Rattle.rooms_seat_state.specs.SeatState
