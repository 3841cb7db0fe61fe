pub mod Formulas
pub mod Generated
pub mod Texts
