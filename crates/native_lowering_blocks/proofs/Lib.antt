mod Noted
mod Found
