pub mod Editions
pub mod Layout
pub mod Fields
pub mod Valid
pub mod Reading
pub mod Fault
pub mod Rows
pub mod EditionsCompared
