pub mod Same
pub mod Ends
pub mod Decided
