pub mod Layout
pub mod Valid
pub mod Fault
pub mod Reading
pub mod Size
pub mod Exact
pub mod Rows
pub mod Address
