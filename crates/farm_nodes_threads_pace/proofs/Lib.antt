pub mod Going
pub mod AllGoing
