pub mod WidthLemmas
pub mod PairLemmas
pub mod FrontLemmas
