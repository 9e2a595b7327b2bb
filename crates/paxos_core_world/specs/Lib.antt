pub mod Ballot
pub mod Farm
pub mod KeptPart
pub mod Quorum
pub mod Run
pub mod Settled
pub mod Step
pub mod World
