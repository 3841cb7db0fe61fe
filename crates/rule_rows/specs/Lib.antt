pub mod RuleRelations
pub mod Listing
pub mod Asking
pub mod Verifying
pub mod Executing
