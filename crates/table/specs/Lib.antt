pub mod States
pub mod Seeks
