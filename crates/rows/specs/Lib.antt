pub mod Chains
pub mod Rows
