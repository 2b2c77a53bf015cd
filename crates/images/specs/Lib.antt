pub mod Pair
pub mod Printed
pub mod Told
pub mod Asked
pub mod Status
pub mod Unfinished
