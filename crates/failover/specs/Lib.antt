pub mod Promoting
