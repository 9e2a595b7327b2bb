pub mod LaidOut
pub mod SettleLines
pub mod SettleStatuses
pub mod Settled
