pub mod Data
pub mod Acts
pub mod Fits
pub mod Spelling
pub mod Reading
pub use Rattle.machine.specs.Frames
pub use Rattle.ints.specs.MachineTable
