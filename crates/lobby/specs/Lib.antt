pub mod Attendance
pub mod Book
pub mod Slot
