pub mod SharedRounds
pub mod Books
