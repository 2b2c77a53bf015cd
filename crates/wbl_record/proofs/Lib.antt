pub mod Mixing
pub mod RecordLemmas
pub mod RecordWords
pub mod Results
