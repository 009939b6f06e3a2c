pub mod Accepting
pub mod Answering
pub mod Shifts
pub mod Descents
pub mod Encoding
pub mod Filled
