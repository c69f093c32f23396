pub mod Head
pub mod Types
pub mod Reading
pub mod Layout
pub mod Decide
pub mod Signed
pub mod Rows
pub mod Tagged
