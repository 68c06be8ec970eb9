pub mod Tabled
pub mod Imported
pub mod Stalled
