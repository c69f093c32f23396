pub mod Areas
pub mod Networks
pub mod Applications
pub mod Items
pub mod Services
pub mod Spans
