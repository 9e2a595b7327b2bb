pub mod Refusals
pub mod Text
pub mod Reading
pub mod Fault
pub mod Lists
pub mod Leaves
pub mod Order
pub mod TextLaws
