pub mod ReplyLines
pub mod Rooms
