pub mod Octets
pub mod Exact
pub mod Named
