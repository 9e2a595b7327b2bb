pub mod Counting
pub mod Quorums
pub mod Sent
