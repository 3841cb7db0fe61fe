pub mod Texts
pub mod Standing
pub mod Witnesses
pub mod Passing
pub mod Gathering
pub mod Judging
