pub mod Terminals
pub mod Grammar
pub mod Unit
pub mod Machine
pub mod Rules
pub mod FaultRuns
pub mod Readers
pub mod Reading
