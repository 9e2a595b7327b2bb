pub mod Function
pub mod Frames
pub mod Meaning
pub mod Growth
pub mod Spelling
pub mod Reading
pub mod Forms
pub mod Equal
pub use Rattle.rtl_acts.specs.Acts
pub use Rattle.rtl_acts.specs.Data
pub use Rattle.rtl_acts.specs.Frames as MachineFrames
pub use Rattle.rtl_acts.specs.MachineTable
pub use Rattle.rtl_acts.specs.declared.act.Act
pub use Rattle.rtl_acts.specs.Fits
pub use Rattle.rtl_acts.specs.Spelling as RtlActsSpelling
pub use Rattle.rtl_acts.specs.declared.arguments.Arguments
pub use Rattle.rtl_acts.specs.declared.test.Test
