pub mod Record
pub mod Current
