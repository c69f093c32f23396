pub mod Rules
pub mod Stack
pub mod Good
pub mod ByKind
pub mod Octets
pub mod Lay
pub mod Walk
pub mod Sixty
