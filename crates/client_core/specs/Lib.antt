pub mod Scripts
pub mod Replies
pub mod Outcomes
pub mod Clients
pub mod Laws
pub mod Working
