pub mod Turns
pub mod Searching
pub mod Found
pub mod RefutingPairs
pub mod FewKnown
pub mod Formed
mod Planned
pub mod Based
pub mod PossibleGoals
mod FewLabels
pub mod Cheaper
pub mod ClosedQueries
mod Parts
