pub mod Frames
pub mod Running
pub mod Calls
pub mod Returns
pub use Rattle.linear_run_loop.specs.Standing as LinearRunLoopStanding
pub use Rattle.linear_run_loop.specs.Whole
pub use Rattle.linear_run_decoded_calls.specs.Places
