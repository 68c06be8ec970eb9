pub mod Rows
pub mod Digits
pub mod Lines
pub mod Table
pub mod Back
