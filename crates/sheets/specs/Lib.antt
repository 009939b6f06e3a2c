pub mod Numbers
pub mod Pressing
pub mod LookingUp
pub mod Promises
