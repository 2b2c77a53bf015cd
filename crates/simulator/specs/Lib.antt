pub mod Copy
pub mod Words
