pub mod Found
pub mod Keeping
pub mod Cuts
pub mod Said
pub mod Outcomes
pub mod Led
mod Worked
pub mod Grammars
pub mod Sent
