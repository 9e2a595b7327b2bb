pub mod UnderWay
pub mod Ballots
