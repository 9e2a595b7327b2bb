pub mod Pending
pub mod PendingLaws
