pub mod Bytes
pub mod Judged
pub mod Lines
pub mod Passes
pub mod Passing
pub mod Told
pub mod Under
pub use Rattle.bundle_offers.specs.declared.fault.OfferFault
