pub mod Desks
pub mod Ready
pub mod Circles
pub mod Entering
pub mod Stalling
pub mod Idle
pub mod Answering
pub mod OneMore
pub mod Keeping
pub mod Alone
pub mod AtDesk
mod Worked
