pub mod Rows
pub mod Paths
pub mod Lengths
pub mod Each
pub mod Splits
pub mod Forms
pub mod Stems
