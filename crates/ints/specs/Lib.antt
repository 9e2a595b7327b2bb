pub mod Words
pub mod Codes
pub mod Conditions
pub mod MachineTable
pub mod CTable
pub mod CondTable
pub mod Laws
