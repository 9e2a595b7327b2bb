pub mod Answered
pub mod Checked
pub mod Lines
pub mod Told
pub use Rattle.cfarm_verify_reading.specs.Found
