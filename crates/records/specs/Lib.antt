pub mod Flag
pub mod Network
pub mod Application
pub mod Service
