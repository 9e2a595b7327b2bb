pub mod Arms
pub mod Laws
pub mod Rests
pub mod StatementArms
pub mod Lasts
pub mod Rows
