pub mod Numbers
pub mod Asked
pub mod Requests
pub mod Writing
pub mod Working
