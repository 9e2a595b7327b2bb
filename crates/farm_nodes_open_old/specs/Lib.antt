pub mod OnPairs
