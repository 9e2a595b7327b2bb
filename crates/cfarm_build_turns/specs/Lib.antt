pub mod Nodes
pub mod NotRun
pub mod Resting
pub mod Unmet
pub mod Voted
pub use Rattle.cfarm_build_faults.specs.Back
pub use Rattle.cfarm_build_faults.specs.Nodes as CameBackNodes
pub use Rattle.cfarm_build_faults.specs.Opened
pub use Rattle.cfarm_build_faults.specs.Words
pub use Rattle.cfarm_build_meeting.specs.Alike
pub use Rattle.farm_nodes_turn_node.specs.Asked
pub use Rattle.farm_nodes_turn_node.specs.declared.farm_node.FarmNode
pub use Rattle.cfarm_build_meeting.specs.Neighbours
pub use Rattle.cfarm_build_meeting.specs.Node
pub use Rattle.cfarm_build_meeting.specs.Built
pub use Rattle.farm_nodes_turn_offer.specs.declared.halt.Fault
