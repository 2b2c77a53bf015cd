pub mod AskedLemmas
pub mod ExchangeLemmas
pub mod PrintedLemmas
