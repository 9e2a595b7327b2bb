pub mod Right
pub mod Walk
pub use Rattle.alloc_check_proof.specs.Allocated
pub use Rattle.alloc_check_proof.specs.Text
pub use Rattle.rtl_passes_marks.specs.ListForm
