pub mod OfferLemmas
pub mod HearLemmas
pub mod Looks
pub mod Stores
pub mod Stays
