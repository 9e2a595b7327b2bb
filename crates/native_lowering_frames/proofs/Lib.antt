mod Rests
mod Saved
mod Outs
mod Nexts
