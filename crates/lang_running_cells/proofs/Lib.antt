pub mod FirstWords
