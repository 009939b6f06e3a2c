pub mod Model
pub mod Told
pub mod Promises
pub mod Wrong
