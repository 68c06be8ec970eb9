pub mod Members
pub mod Reasons
pub mod Entries
pub mod Answered
pub mod Noted
pub mod Answers
pub mod Histories
pub mod Counts
