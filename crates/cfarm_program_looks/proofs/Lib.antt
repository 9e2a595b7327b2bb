pub mod NativeStatuses
pub mod EmitStatuses
pub mod JudgeStatuses
pub mod ListStatuses
pub mod ShowStatuses
mod Sent
pub mod VerifyStatuses
