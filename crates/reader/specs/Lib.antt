pub mod Answers
pub mod Reading
pub mod Walking
pub mod Stands
pub mod Rows
