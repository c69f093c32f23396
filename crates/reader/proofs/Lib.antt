pub mod Heads
pub mod Ways
pub mod Walking
pub mod Onward
pub mod Exact
pub mod Rows
pub mod Passed
