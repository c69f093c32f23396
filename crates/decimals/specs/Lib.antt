pub mod Worth
pub mod Order
pub mod Promises
pub mod Division
pub mod Narrow
