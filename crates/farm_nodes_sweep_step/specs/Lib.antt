pub mod Next
pub mod Staged
pub mod StepLaws
