pub mod Trees
pub mod Views
pub mod Codes
pub mod State
pub mod Evaluation
pub mod Meaning
pub mod Growth
pub mod Fits
pub use Rattle.machine.specs.Acts
pub use Rattle.machine.specs.Frames
pub use Rattle.machine.specs.Fits as MachineFits
