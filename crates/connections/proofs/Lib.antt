pub mod AskingLemmas
pub mod OutboundLemmas
pub mod SessionLemmas
pub mod PositionsLemmas
pub mod SequencerLemmas
pub mod SeatLemmas
pub mod OverLemmas
pub mod TurnLemmas
