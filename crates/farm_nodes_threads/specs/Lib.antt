pub mod CameBack
pub mod Nodes
pub mod OneTurn
pub mod Stopped
pub use Rattle.farm_nodes_threads_pace.specs.After
pub use Rattle.farm_nodes_turn_node.specs.Fours
