pub mod FarmNodes
pub mod Joined
pub mod Words
pub use Rattle.farm_nodes_turn_node.specs.Held
pub use Rattle.farm_nodes_turn_node.specs.Waiting
pub use Rattle.farm_nodes_turn_node.specs.declared.farm_node.FarmNode
pub use Rattle.farm_nodes_turn_node.specs.JournalAdvances
