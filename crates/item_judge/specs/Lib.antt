pub mod Judge
pub mod Meaning
pub mod Kinds
pub mod OneLayout
