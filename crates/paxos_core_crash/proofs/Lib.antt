pub mod OthersLemmas
pub mod SameLemmas
pub mod CrashLemmas
pub mod JournalLemmas
pub mod FarmLemmas
