mod Lines
pub mod Upward
pub mod Above
pub mod Answering
pub mod Meet
