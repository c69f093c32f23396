pub mod Heard
pub mod Frame
pub mod Answers
pub mod Acting
pub mod Calls
pub mod Offering
pub mod Lent
