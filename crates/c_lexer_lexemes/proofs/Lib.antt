pub mod IntConstants
pub mod KeywordTexts
pub mod PunctuatorFronts
pub mod Starts
pub mod WordFronts
pub mod Worths
