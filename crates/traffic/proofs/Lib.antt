pub mod Frames
pub mod Content
pub mod Joining
pub mod Fed
pub mod Places
