mod Deciding
mod Kept
