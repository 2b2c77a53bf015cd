pub mod ToCome
