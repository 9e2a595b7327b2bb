pub mod Translating
pub mod Found
pub mod Noted
pub mod Texts
pub mod Old
