pub mod Octets
pub mod Names
pub mod Grammar
pub mod CmiNames
pub mod Readings
