pub mod Writes
pub mod Bits
pub mod Tags
pub mod Sheets
