mod Bytes
mod Heads
