pub mod Known
pub mod Ranges
pub mod Rules
pub use Rattle.rtl_passes_filled.specs.NodeRow
