pub mod Layout
pub mod Fault
pub mod Judging
