pub mod Held
pub mod Disks
pub mod FirstFault
pub mod FromJournals
pub mod Carried
pub use Rattle.farm_nodes_open_seats.proofs.Lists
