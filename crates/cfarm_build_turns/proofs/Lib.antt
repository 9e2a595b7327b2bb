pub mod Lowest
pub mod NodesRest
pub mod Turning
pub mod Voted
pub use Rattle.cfarm_build_meeting.proofs.Zips
pub use Rattle.cfarm_build_meeting.proofs.Counting
