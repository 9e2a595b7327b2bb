pub mod Offering
pub mod Keeping
pub mod Holding
pub mod Resting
pub mod Looking
pub mod Joining
pub use Rattle.rooms_meeting.proofs.Acts
pub use Rattle.rooms_meeting.proofs.Told
