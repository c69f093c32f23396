pub mod Slots
pub mod Rows
pub mod Sound
pub mod History
pub mod Alone
pub mod Table
