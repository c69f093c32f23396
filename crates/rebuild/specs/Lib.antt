pub mod View
pub mod Given
pub mod Calls
