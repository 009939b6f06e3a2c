pub mod Puts
pub mod Packing
pub mod Tagged
pub mod Sheeted
