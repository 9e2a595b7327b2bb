pub mod Edges
pub mod Certificates
pub mod Laws
pub mod Handed
pub use Rattle.rtl_passes_filled.specs.Accepted
pub use Rattle.rtl_passes_filled.specs.Known
pub use Rattle.rtl_passes_filled.specs.Places
pub use Rattle.rtl_passes_marks.specs.Edges as RtlPassesMarksEdges
pub use Rattle.rtl_passes_marks.specs.Ranked
pub use Rattle.rtl_passes_marks.specs.RowForm
pub use Rattle.rtl_passes_marks.specs.Rows
pub use Rattle.rtl_passes_marks.specs.declared.row.NodeRow
pub use Rattle.rtl_passes_marks.specs.Function
pub use Rattle.rtl_passes_marks.specs.Meaning
pub use Rattle.rtl_passes_marks.specs.Instruction
pub use Rattle.rtl_passes_marks.specs.Act
pub use Rattle.rtl_passes_marks.specs.Fits
