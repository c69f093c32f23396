pub mod Layout
pub mod Kinds
pub mod Valid
pub mod Reading
