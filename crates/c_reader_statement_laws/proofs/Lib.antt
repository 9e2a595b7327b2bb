pub mod StatementsTaken
pub mod Stays
pub mod StatementsAgain
pub mod Body
pub mod Loops
