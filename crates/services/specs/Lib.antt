pub mod Parts
pub mod Reading
pub mod Layout
pub mod Places
pub mod Shows
pub mod Rows
