pub mod Trips
pub mod Cases
pub mod Judged
