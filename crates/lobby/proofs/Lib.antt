pub mod AttendanceLemmas
pub mod BookLemmas
pub mod Numbers
pub mod SlotsLemmas
pub mod Waiting
