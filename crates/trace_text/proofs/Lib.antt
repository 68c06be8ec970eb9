pub mod Following
pub mod Cuts
pub mod Spelled
pub mod Forms
pub mod Free
pub mod Outcomes
pub mod Tallied
pub mod Differing
mod Worked
