pub mod Layout
pub mod Fault
pub mod Calls
pub mod Laying
