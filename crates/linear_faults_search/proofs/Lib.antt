pub mod Made
pub mod Found
