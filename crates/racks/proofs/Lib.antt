pub mod Verdicts
pub mod Fronts
pub mod Rows
