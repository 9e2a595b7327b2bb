pub mod Lowered
pub mod Made
pub mod Found
pub mod Spelled
pub use Rattle.rtlgen.specs.Refused
