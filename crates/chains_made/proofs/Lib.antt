mod Counting
mod Memory
mod Registers
