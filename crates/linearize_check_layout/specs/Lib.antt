pub mod Reach
pub mod Marks
pub mod Visits
pub use Rattle.machine.specs.Fits
pub use Rattle.machine.specs.contracts.act.Act
pub use Rattle.locations.specs.contracts.location.LocationEq
