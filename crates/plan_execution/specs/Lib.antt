pub mod PlanRounds
pub mod Running
pub mod Executing
pub mod Rounding
