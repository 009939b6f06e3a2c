pub mod Puts
pub mod Shown
pub mod Showing
pub mod Carried
pub mod Compared
pub mod Parting
pub mod Paired
