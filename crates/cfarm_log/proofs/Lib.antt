pub mod HeadLemmas
pub mod FrontLemmas
pub mod Opens
pub mod Printed
