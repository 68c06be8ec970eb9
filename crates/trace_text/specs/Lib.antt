pub mod Reasons
pub mod Texts
pub mod Faults
pub mod Legal
pub mod Working
pub mod Reading
pub mod Tallies
