pub mod Framed
pub mod Heard
