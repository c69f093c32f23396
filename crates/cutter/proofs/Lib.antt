pub mod Counts
pub mod Lengths
pub mod Fine
pub mod Pieces
pub mod Turns
