pub mod Walks
pub mod TapeLemmas
pub mod ToldLemmas
pub mod SendLemmas
pub mod PadLemmas
pub mod SlotLemmas
pub mod NamedLemmas
pub mod Sent
