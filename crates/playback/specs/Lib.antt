pub mod Layout
pub mod Valid
pub mod Reading
pub mod Answers
pub mod Calls
pub mod Lent
pub mod Offering
