pub mod UnitNames
pub mod Lines
pub mod Tellings
pub mod Hearing
pub mod Taking
pub mod Pieces
pub mod Writing
mod Rows
pub mod Both
pub mod OneBlock
