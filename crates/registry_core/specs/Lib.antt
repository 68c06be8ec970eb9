pub mod Ledgers
pub mod Standing
pub mod Shelves
pub mod Marks
pub mod Books
pub mod Desks
pub mod Alone
