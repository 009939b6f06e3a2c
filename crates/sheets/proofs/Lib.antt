pub mod Looked
pub mod Pages
pub mod Pressed
pub mod Promised
