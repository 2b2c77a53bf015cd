pub mod Asked
pub mod Exchange
pub mod Printed
pub mod Told
