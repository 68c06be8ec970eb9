pub mod Runs
pub mod Fronts
pub mod Cuts
pub mod Spans
pub mod OneCut
