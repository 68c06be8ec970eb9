pub mod Tabling
pub mod Openings
pub mod Pairs
pub mod Settling
pub mod Counted
pub mod Padding
pub mod Scanning
