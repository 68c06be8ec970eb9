pub mod Rows
pub mod Members
pub mod WalkLaws
pub mod ShortWalks
pub mod LastPairs
pub mod Spreading
