pub mod FileLemmas
pub mod LossLemmas
pub mod RecordLemmas
pub mod ReplayLemmas
