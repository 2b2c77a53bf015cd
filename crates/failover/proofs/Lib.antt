pub mod PromotedLemmas
