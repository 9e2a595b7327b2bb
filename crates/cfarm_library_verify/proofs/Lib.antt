mod Answered
mod Numbered
