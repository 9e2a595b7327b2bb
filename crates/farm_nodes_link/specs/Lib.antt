pub mod Learned
pub mod Lent
pub mod Offered
pub mod Refused
pub mod Translated
pub mod Alike
pub mod Going
pub mod Linking
pub use Rattle.farm_nodes_turn_node.specs.declared.halted.Halted
pub use Rattle.farm_nodes_turn_node.specs.Asked
pub use Rattle.farm_nodes_turn_node.specs.Held
pub use Rattle.farm_nodes_turn_node.specs.Waiting
pub use Rattle.farm_nodes_meet_seats.specs.NumberedSeat
pub use Rattle.farm_nodes_meet_seats.specs.Held as FarmNodesMeetSeatsHeld
pub use Rattle.farm_nodes_meet_seats.specs.Lists
pub use Rattle.linker.specs.Numbers
pub use Rattle.linker.specs.declared.errors.LinkError
