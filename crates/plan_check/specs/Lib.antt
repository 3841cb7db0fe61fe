pub mod Forms
pub mod Trials
pub mod Verdicts
