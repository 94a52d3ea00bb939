pub mod FailingLemmas
pub mod HeldLemmas
pub mod TakenLemmas
