pub mod Refusals
pub mod Values
pub mod Replies
pub mod Working
