pub mod PrefixLemmas
pub mod CallsLemmas
pub mod PositionsLemmas
pub mod SizeLemmas
pub mod ServesLemmas
pub mod MapLemmas
pub mod VersionsLemmas
pub mod GroupsLemmas
pub mod DirectoryLemmas
pub mod LayoutLemmas
pub mod RecordLemmas
pub mod StandingLemmas
pub mod SessionLemmas
pub mod RequestLemmas
pub mod ReadRecordLemmas
pub mod ReadEntryLemmas
pub mod ReadMapLemmas
mod WorkedCases
mod WorkedImages
