pub mod Nodes
pub mod Read
pub mod Checked
pub use Rattle.farm_nodes_open_offers.specs.Known
pub use Rattle.farm_nodes_open_offers.specs.Stored
pub use Rattle.farm_nodes_open_offers.specs.Written
pub use Rattle.farm_nodes_open_offers.specs.declared.fault.RecordFault
pub use Rattle.farm_nodes_open_offers.specs.declared.storing.Stored as FarmNodesOpenOffersStored
pub use Rattle.farm_nodes_open_offers.specs.AllocPass
pub use Rattle.cse_check.specs.contracts.pass.CsePass
pub use Rattle.linearize_check.specs.contracts.pass.LinearizePass
