pub mod Link
pub mod Slot
pub mod Edition
pub mod Layout
pub mod Calls
pub mod Judging
