pub mod Parts
pub mod Fronts
pub mod Spans
pub mod Datas
pub mod Eaten
