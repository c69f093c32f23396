pub mod Deeds
pub mod Demand
