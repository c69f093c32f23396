pub mod Fault
pub mod Front
pub mod Calls
