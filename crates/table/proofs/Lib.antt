pub mod Puts
pub mod Searched
pub mod Founds
pub mod Insertions
pub mod Limits
pub mod Makings
