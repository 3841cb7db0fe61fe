mod Cutting
mod Splitting
mod Giving
mod Making
