pub mod Back
pub mod OpenNodes
pub mod Refused
pub mod Opened
pub use Rattle.farm_nodes_open_join.specs.FarmNodes
pub use Rattle.farm_nodes_open_join.specs.Words
pub use Rattle.farm_nodes_open_seats.specs.declared.fault.OpenFault
pub use Rattle.farm_nodes_open_seats.specs.RoomFault
pub use Rattle.farm_nodes_open_seats.specs.Refused as FarmNodesOpenSeatsRefused
