pub mod Crash
pub mod FarmCrash
pub use Rattle.paxos_core_late_offers.specs.LateOffer
