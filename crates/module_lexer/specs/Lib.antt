pub mod Octets
pub mod Reasons
pub mod Cut
pub mod Tokens
pub mod Faults
pub mod Fronts
