pub mod Rows
pub mod Tables
pub mod Placements
pub mod Reach
pub mod Stored
pub mod Written
pub mod Calls
pub mod Theorems
