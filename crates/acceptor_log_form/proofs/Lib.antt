pub mod Blocks
pub mod Bodies
pub mod Headers
pub mod LeavesLemmas
pub mod Texts
pub mod OneFault
pub mod Between
