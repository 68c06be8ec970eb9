pub mod Cuts
pub mod Grows
pub mod Stands
pub mod Runs
pub mod BlockLaws
pub mod LimitLaws
