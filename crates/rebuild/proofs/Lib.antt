pub mod Lookup
pub mod Seen
pub mod Giving
pub mod Page
pub mod Given
pub mod Ways
